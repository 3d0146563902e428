-- `relaxation::solve_3d::after_inner` meets its contract. Assumes nothing.
use mathlib.Core.Path.{sym}
use Rattle.std.proofs.lemmas.Result.{err_from_is_err_and}
use Rattle.arithmetic.specs.Binary32.{when◌then◌else◌}
use Rattle.admission.proofs.FaultLaws.{must-fine}
use Rattle.pass_2d.proofs.RuleLaws.{told-unless}
use Rattle.relaxation.specs.Relax.{relax_refused, replaced}
use Rattle.relaxation.proofs.solve_3d.after_inner.Goals as goal

pub returns-in_err-unless-in-Feasible : goal.returns-in_err-unless-in-Feasible
unfolding replaced
returns-in_err-unless-in-Feasible c =
    let p = err_from_is_err_and c.from_residual.result c.from_residual.ensures.1 in
    let told = rw (c.are_finite.ensures, c.depth_in-depth.ensures) at c.in_err-unless-in-Feasible.ensures in
    rw (p.1, p.2, c.in-Feasible.is) (told-unless relax_refused _ 9 _ _ told)

pub returns-in_ok-unless-in-Feasible : goal.returns-in_ok-unless-in-Feasible
unfolding replaced when◌then◌else◌
returns-in_ok-unless-in-Feasible c =
    let passed = must-fine _ 9 (sym c.in_ok-unless-in-Feasible.ensures) in
    simp (c.in-Feasible.is, ← c.depth_in-depth.ensures, ← c.are_finite.ensures, passed)

pub returns-in-Infeasible : goal.returns-in-Infeasible
unfolding replaced
returns-in-Infeasible c = simp c.in-Infeasible.is
