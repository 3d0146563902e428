-- `pass_2d::solve_2d::pass_from` meets its contract. Assumes nothing.
use mathlib.Core.Path.{refl, sym, ◌∙◌}
use native.Mathlib.Omega.{arith}
use lib.Seq.{length-take-le}
use Rattle.std.proofs.lemmas.Result.{err_from_is_err_and}
use Rattle.lines.specs.Lines.{lines_of, off_line}
use Rattle.pass_2d.specs.Pass.{pass_line}
use Rattle.one_line.specs.Read.{objective_of}
use Rattle.lines.proofs.Rows.{lines_long}
use Rattle.pass_2d.proofs.WalkLaws.{walk-on, walk-stop, walk-done}
use Rattle.pass_2d.proofs.Variants.{failed-stays}
use Rattle.pass_2d.proofs.Probes.{line-most}
use Rattle.pass_2d.proofs.solve_2d.pass_from.Goals as goal

pub returns-in_err-failed : goal.returns-in_err-failed
unfolding pass_line
returns-in_err-failed c =
    let a = c.args in
    let l = c.loop-i in
    let p = err_from_is_err_and c.from_residual.result c.from_residual.ensures.1 in
    let long = lines_long a.lines.now in
    rw (p.1, p.2) (sym (l.invariant.1 ∙ walk-stop (pass_line (objective_of a.optimal_value) a.radius) (lines_of a.lines.now)
    l.i off_line (omega arith) (sym c.in_err-failed.ensures) (λ e x. refl)))

pub returns-in_default : goal.returns-in_default
returns-in_default c =
    let a = c.args in
    let l = c.loop-i in
    let long = lines_long a.lines.now in
    sym (l.invariant.1 ∙ walk-stop (pass_line (objective_of a.optimal_value) a.radius) (lines_of a.lines.now) l.i off_line
    (omega arith) (sym c.in_ok-failed.ensures) (failed-stays _ _ c.in_ok-failed.failed c.in_default.not-Feasible))

pub loop-i-preserved : goal.loop-i-preserved
loop-i-preserved c =
    let a = c.args in
    let l = c.loop-i in
    let long = lines_long a.lines.now in
    let step = rw c.in-Feasible.is at c.in_ok-failed.ensures in
    let short = length-take-le l.i (lines_of a.lines.now) (omega arith) in (
      omega (arith, short, line-most _ _ _ _ _ _ _ _ step),
      l.invariant.1 ∙ walk-on (pass_line (objective_of a.optimal_value) a.radius) (lines_of a.lines.now) l.i off_line
          (omega arith) (sym step),
    )

pub returns : goal.returns
returns c =
    let a = c.args in
    let l = c.loop-i in
    let long = lines_long a.lines.now in
    sym (l.invariant.1 ∙ walk-done (pass_line (objective_of a.optimal_value) a.radius) (lines_of a.lines.now) l.i (omega arith))
