-- `pass_2d::resume_linear_program_2d` meets its contract. In each need `given` is that the numbers of the first lines
-- are these lines. Assumes nothing.
use Prim.Native.Nat.{◌*◌}
use mathlib.Core.Path.{sym, ◌∙◌}
use native.Mathlib.Omega.{arith}
use borrow.Author.Tests.{leb-true}
use lib.ListN.{take}
use lib.Seq.{length-take-le}
use Rattle.std.proofs.lemmas.Result.{err_from_is_err_and}
use Rattle.admission.proofs.FaultLaws.{must-fine}
use Rattle.lines.specs.Lines.{lines_of}
use Rattle.lines.proofs.Fold.{count-taken}
use Rattle.lines.proofs.Rows.{count_fits, lines_long, lines-take}
use Rattle.pass_2d.specs.Pass.{refused}
use Rattle.pass_2d.specs.Calls.{resumed_pass}
use Rattle.pass_2d.proofs.RuleLaws.{told-unless}
use Rattle.pass_2d.proofs.CallLaws.{few-resumed}
use Rattle.pass_2d.proofs.resume_linear_program_2d.Goals as goal

pub overflow_mul-lines : goal.overflow_mul-lines
overflow_mul-lines c = omega (arith, count_fits c.args.lines.now _ c.count_given.ensures)

pub slice_bounds-lines-end : goal.slice_bounds-lines-end
slice_bounds-lines-end c =
    let b = c.args.lines.now in
    sym (length-take-le _ b (count_fits b _ c.count_given.ensures))

pub returns-in_err-unless : goal.returns-in_err-unless
unfolding resumed_pass
returns-in_err-unless c =
    let a = c.args in
    let r = c.count_given.result in
    let given = lines-take a.lines.now r ∙ count-taken a.count (lines_of a.lines.now) c.count_given.ensures in
    let p = err_from_is_err_and c.from_residual.result c.from_residual.ensures.1 in
    rw (p.1, p.2, ← given, lines_long (take (4 * r) a.lines.now)) (told-unless refused _ 4 _ _ c.in_err-unless.ensures)

pub pass_from-requires : goal.pass_from-requires
pass_from-requires c = leb-true _ _ (must-fine _ 4 (sym c.in_ok-unless.ensures))

pub returns : goal.returns
returns c =
    let a = c.args in
    let r = c.count_given.result in
    let given = lines-take a.lines.now r ∙ count-taken a.count (lines_of a.lines.now) c.count_given.ensures in
    let few = leb-true _ _ (must-fine _ 4 (sym c.in_ok-unless.ensures)) in
    let short = rw (← lines_long (take (4 * r) a.lines.now)) at few in
    rw given at (c.pass_from.ensures ∙ sym (few-resumed _ _ _ short a.from a.point))
