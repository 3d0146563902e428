-- `layouts::count_at` meets its contract. Assumes nothing.
use Prim.Native.Nat.{◌<◌}
use mathlib.Core.Path.{◌≡◌, sym}
use lib.ListN.{length, get_or}
use borrow.Author.Rules.{rules}
use borrow.Author.Tests.{ltb-true, ltb-false}
use Rattle.std.proofs.lemmas.Result.{err_from_is_err_and}
use Rattle.layouts.proofs.LentInOrder.{count-there, count-missing}
use Rattle.layouts.proofs.count_at.Goals as goal

pub returns-in_default-clause-fault : goal.returns-in_default-clause-fault
returns-in_default-clause-fault c = sym (count-missing _ _ _ _ (ltb-false _ _ (sym c.in_default.ensures.lookup.0)))

pub returns-in_err-unless-clause-fault : goal.returns-in_err-unless-clause-fault
returns-in_err-unless-clause-fault c =
    let e = err_from_is_err_and c.from_residual.result c.from_residual.ensures.1 in
    let a = c.args in
    let cs = a.counts.now in
    let there : a.i < length cs = ltb-true _ _ (sym c.in-Some.ensures.lookup.0) in
    let same : c.from-count.result ≡ get_or cs a.i 0 = search rules in
    rw (e.1, e.2, count-there a.total a.kind cs a.i there, ← same, ← c.has_room.ensures) (rw (← c.in_err-unless.ensures))

pub returns-in_err-unless-2-clause-fault : goal.returns-in_err-unless-2-clause-fault
returns-in_err-unless-2-clause-fault c =
    let e = err_from_is_err_and c.from_residual-in_err-unless-2.result c.from_residual-in_err-unless-2.ensures.1 in
    let a = c.args in
    let cs = a.counts.now in
    let there : a.i < length cs = ltb-true _ _ (sym c.in-Some.ensures.lookup.0) in
    let same : c.from-count.result ≡ get_or cs a.i 0 = search rules in
    rw (e.1, e.2, count-there a.total a.kind cs a.i there, ← same, ← c.has_room.ensures, ← c.is_empty_open.ensures)
    (rw (← c.in_ok-unless.ensures) c.in_err-unless-2.ensures)

pub returns-clause-fault : goal.returns-clause-fault
returns-clause-fault c =
    let a = c.args in
    let cs = a.counts.now in
    let there : a.i < length cs = ltb-true _ _ (sym c.in-Some.ensures.lookup.0) in
    let same : c.from-count.result ≡ get_or cs a.i 0 = search rules in
    rw (count-there a.total a.kind cs a.i there, ← same, ← c.has_room.ensures, ← c.is_empty_open.ensures)
    (rw (← c.in_ok-unless.ensures) c.in_ok-unless-2.ensures)
