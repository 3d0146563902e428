-- `pass_2d::solve_linear_program_2d` meets its contract. In each need `given` is that the numbers of the first lines are
-- these lines. Assumes nothing.
use Prim.Native.Nat.{◌*◌}
use mathlib.Core.Path.{sym, ◌∙◌}
use native.Mathlib.Omega.{arith}
use borrow.Author.Tests.{leb-true}
use lib.ListN.{take}
use lib.Seq.{length-take-le}
use Rattle.std.proofs.lemmas.Result.{err_from_is_err_and}
use Rattle.admission.proofs.FaultLaws.{must-fine}
use Rattle.lines.specs.Lines.{lines_of}
use Rattle.lines.proofs.Fold.{count-taken}
use Rattle.lines.proofs.Rows.{count_fits, lines_long, lines-take}
use Rattle.pass_2d.specs.Pass.{refused}
use Rattle.pass_2d.specs.Calls.{pass_call}
use Rattle.pass_2d.proofs.PassLaws.{started, not-started}
use Rattle.pass_2d.proofs.RuleLaws.{told-unless}
use Rattle.pass_2d.proofs.CallLaws.{few-called}
use Rattle.pass_2d.proofs.solve_linear_program_2d.Goals as goal

pub overflow_mul-given : goal.overflow_mul-given
overflow_mul-given c = omega (arith, count_fits c.args.lines.now _ c.count_given.ensures)

pub slice_bounds-given-end : goal.slice_bounds-given-end
slice_bounds-given-end c =
    let b = c.args.lines.now in
    sym (length-take-le _ b (count_fits b _ c.count_given.ensures))

pub returns-in_err-unless : goal.returns-in_err-unless
unfolding pass_call
returns-in_err-unless c =
    let a = c.args in
    let r = c.count_given.result in
    let given = lines-take a.lines.now r ∙ count-taken a.count (lines_of a.lines.now) c.count_given.ensures in
    let p = err_from_is_err_and c.from_residual.result c.from_residual.ensures.1 in
    rw (p.1, p.2, ← given, lines_long (take (4 * r) a.lines.now)) (told-unless refused _ 4 _ _ c.in_err-unless.ensures)

pub returns-in_err-judge_point : goal.returns-in_err-judge_point
returns-in_err-judge_point c =
    let a = c.args in
    let b = take (4 * c.count_given.result) a.lines.now in
    let given = lines-take a.lines.now _ ∙ count-taken a.count (lines_of a.lines.now) c.count_given.ensures in
    let few = leb-true _ _ (must-fine _ 4 (sym c.in_ok-unless.ensures)) in
    let short = rw (← lines_long b) at few in
    let r = c.from_residual-in_err-judge_point in
    let p = err_from_is_err_and r.result r.ensures.1 in
    let first = rw c.start_value-point.ensures at (c.in_err-judge_point.ensures 0) in
    rw (p.1, p.2, ← given) (not-started _ _ (lines_of b) _ first ∙ sym (few-called _ _ _ short))

pub pass_from-requires : goal.pass_from-requires
pass_from-requires c = leb-true _ _ (must-fine _ 4 (sym c.in_ok-unless.ensures))

pub returns : goal.returns
returns c =
    let a = c.args in
    let b = take (4 * c.count_given.result) a.lines.now in
    let given = lines-take a.lines.now _ ∙ count-taken a.count (lines_of a.lines.now) c.count_given.ensures in
    let few = leb-true _ _ (must-fine _ 4 (sym c.in_ok-unless.ensures)) in
    let short = rw (← lines_long b) at few in
    let first = rw c.start_value-point.ensures at (c.in_ok-judge_point.ensures 0) in
    let whole = started _ _ (lines_of b) _ first ∙ sym (few-called _ _ _ short) in
    rw given at (rw c.start_value-point.ensures at c.pass_from.ensures ∙ whole)
