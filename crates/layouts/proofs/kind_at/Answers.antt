-- `layouts::kind_at` meets its contract. Assumes nothing.
use Prim.Native.Nat.{◌<◌}
use mathlib.Core.Path.{◌≡◌, sym, ap, ◌∙◌}
use mathlib.Core.Bool.{Bool}
use lib.ListN.{length, get_or}
use borrow.Author.Rules.{rules}
use borrow.Author.Tests.{ltb-true, ltb-false}
use Rattle.std.proofs.lemmas.Result.{err_from_is_err_and}
use Rattle.admission.specs.Faults.{must}
use Rattle.layouts.proofs.LentInOrder.{kind-there, kind-missing}
use Rattle.layouts.proofs.kind_at.Goals as goal

pub returns-in_default-clause-fault : goal.returns-in_default-clause-fault
returns-in_default-clause-fault c = sym (kind-missing _ _ (ltb-false _ _ (sym c.in_default.ensures.lookup.0)))

pub returns-in_err-unless-clause-fault : goal.returns-in_err-unless-clause-fault
returns-in_err-unless-clause-fault c =
    let e = err_from_is_err_and c.from_residual.result c.from_residual.ensures.1 in
    let ks = c.args.kinds.now in
    let there : c.args.i < length ks = ltb-true _ _ (sym c.in-Some.ensures.lookup.0) in
    let same : c.in-Some.field-0.now ≡ get_or ks c.args.i 0 = search rules in
    rw (e.1, e.2, kind-there ks c.args.i there, ← same)
    (c.in_err-unless.ensures ∙ ap (λ (b : Bool). must b 3) c.is_kind.ensures)

pub returns-clause-fault : goal.returns-clause-fault
returns-clause-fault c =
    let ks = c.args.kinds.now in
    let there : c.args.i < length ks = ltb-true _ _ (sym c.in-Some.ensures.lookup.0) in
    let same : c.in-Some.field-0.now ≡ get_or ks c.args.i 0 = search rules in
    rw (kind-there ks c.args.i there, ← same) (c.in_ok-unless.ensures ∙ ap (λ (b : Bool). must b 3) c.is_kind.ensures)
