-- `relaxation::solve_3d::relax_from` meets its contract. Assumes nothing.
use mathlib.Core.Path.{sym, ◌∙◌}
use native.Mathlib.Omega.{arith}
use lib.Seq.{length-take-le}
use Rattle.std.proofs.lemmas.Result.{err_from_is_err_and}
use Rattle.lines.specs.Lines.{lines_of, off_line}
use Rattle.lines.proofs.Rows.{lines_long}
use Rattle.pass_2d.proofs.WalkLaws.{walk-on, walk-stop, walk-done}
use Rattle.relaxation.specs.Relax.{relax_line}
use Rattle.relaxation.proofs.TightLaws.{relax-refused-stays}
use Rattle.relaxation.proofs.RelaxedProbes.{relax-most}
use Rattle.relaxation.proofs.solve_3d.relax_from.Goals as goal

pub returns-in_err-relaxed : goal.returns-in_err-relaxed
returns-in_err-relaxed c =
    let a = c.args in
    let l = c.loop-i in
    let p = err_from_is_err_and c.from_residual.result c.from_residual.ensures.1 in
    let long = lines_long a.lines.now in
    rw (p.1, p.2) (sym (l.invariant.1 ∙ walk-stop (relax_line a.rigid a.radius) (lines_of a.lines.now) l.i off_line
    (omega arith) (sym c.in_err-relaxed.ensures) (relax-refused-stays _ _ _)))

pub loop-i-preserved : goal.loop-i-preserved
loop-i-preserved c =
    let a = c.args in
    let l = c.loop-i in
    let long = lines_long a.lines.now in
    let step = c.in_ok-relaxed.ensures in
    let short = length-take-le l.i (lines_of a.lines.now) (omega arith) in (
      omega (arith, relax-most _ _ _ _ (omega (arith, short)) _ _ _ _ _ _ step),
      l.invariant.1 ∙ walk-on (relax_line a.rigid a.radius) (lines_of a.lines.now) l.i off_line (omega arith) (sym step),
    )

pub returns : goal.returns
returns c =
    let a = c.args in
    let l = c.loop-i in
    let long = lines_long a.lines.now in
    sym (l.invariant.1 ∙ walk-done (relax_line a.rigid a.radius) (lines_of a.lines.now) l.i (omega arith))
