-- `one_line::solve_linear_program_along_line` meets its contract. Assumes nothing.
use mathlib.Core.Path.{sym, ◌∙◌}
use native.Mathlib.Omega.{arith}
use lib.Seq.{length-take-le}
use Rattle.lines.specs.Lines.{lines_of}
use Rattle.lines.proofs.Fold.{count-taken}
use Rattle.lines.proofs.Rows.{count_fits, lines-take}
use Rattle.one_line.specs.OneLine.{choose}
use Rattle.one_line.proofs.OneLineLaws.{missed, narrowed}
use Rattle.one_line.proofs.solve_linear_program_along_line.Goals as goal

pub overflow_mul-given : goal.overflow_mul-given
overflow_mul-given c = omega (arith, count_fits c.args.lines.now _ c.count_given.ensures)

pub slice_bounds-given-end : goal.slice_bounds-given-end
slice_bounds-given-end c =
    let b = c.args.lines.now in
    sym (length-take-le _ b (count_fits b _ c.count_given.ensures))

pub returns-in-Err : goal.returns-in-Err
returns-in-Err c = missed _ _ _ _ _ c.in-Err.ensures

pub returns-in-Ok-narrow_all : goal.returns-in-Ok-narrow_all
returns-in-Ok-narrow_all c =
    let a = c.args in
    let taken = count-taken a.count (lines_of a.lines.now) c.count_given.ensures in
    c.best_on.ensures ∙ narrowed _ _ _ _ _ _ _ c.in-Ok.ensures
    (rw (lines-take a.lines.now c.count_given.result, taken) at c.in-Ok-narrow_all.ensures)

pub returns-in-Err-narrow_all : goal.returns-in-Err-narrow_all
unfolding choose
returns-in-Err-narrow_all c =
    let a = c.args in
    let taken = count-taken a.count (lines_of a.lines.now) c.count_given.ensures in
    narrowed _ _ _ _ _ _ _ c.in-Ok.ensures
    (rw (lines-take a.lines.now c.count_given.result, taken) at c.in-Err-narrow_all.ensures)
