-- `relaxation::solve_linear_program_3d` meets its contract. In each need `given` is that the numbers of the first lines
-- are these lines. Assumes nothing.
use Prim.Native.Nat.{◌*◌}
use mathlib.Core.Path.{sym, ◌∙◌}
use native.Mathlib.Omega.{arith}
use borrow.Author.Tests.{leb-true}
use lib.ListN.{take}
use lib.Seq.{length-take-le}
use Rattle.std.proofs.lemmas.Result.{err_from_is_err_and}
use Rattle.admission.proofs.FaultLaws.{must-fine}
use Rattle.lines.specs.Lines.{lines_of}
use Rattle.lines.proofs.Fold.{count-taken}
use Rattle.lines.proofs.Rows.{count_fits, lines_long, lines-take}
use Rattle.pass_2d.proofs.RuleLaws.{told-unless}
use Rattle.relaxation.specs.Relax.{relax_refused}
use Rattle.relaxation.specs.Calls.{resumed_relaxation}
use Rattle.relaxation.proofs.CallLaws.{few-relaxed}
use Rattle.relaxation.proofs.solve_linear_program_3d.Goals as goal

pub overflow_mul-lines : goal.overflow_mul-lines
overflow_mul-lines c = omega (arith, count_fits c.args.lines.now _ c.count_given.ensures)

pub slice_bounds-lines-end : goal.slice_bounds-lines-end
slice_bounds-lines-end c =
    let b = c.args.lines.now in
    sym (length-take-le _ b (count_fits b _ c.count_given.ensures))

pub returns-in_err-unless : goal.returns-in_err-unless
unfolding resumed_relaxation
returns-in_err-unless c =
    let a = c.args in
    let r = c.count_given.result in
    let given = lines-take a.lines.now r ∙ count-taken a.count (lines_of a.lines.now) c.count_given.ensures in
    let p = err_from_is_err_and c.from_residual.result c.from_residual.ensures.1 in
    rw (p.1, p.2, ← given, lines_long (take (4 * r) a.lines.now)) (told-unless relax_refused _ 4 _ _ c.in_err-unless.ensures)

pub relax_from-requires : goal.relax_from-requires
relax_from-requires c = leb-true _ _ (must-fine _ 4 (sym c.in_ok-unless.ensures))

pub returns : goal.returns
returns c =
    let a = c.args in
    let r = c.count_given.result in
    let given = lines-take a.lines.now r ∙ count-taken a.count (lines_of a.lines.now) c.count_given.ensures in
    let few = leb-true _ _ (must-fine _ 4 (sym c.in_ok-unless.ensures)) in
    let short = rw (← lines_long (take (4 * r) a.lines.now)) at few in
    rw given at (c.relax_from.ensures ∙ sym (few-relaxed _ _ _ short a.from a.value a.penetration))
