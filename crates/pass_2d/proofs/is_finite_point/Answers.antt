-- `pass_2d::is_finite_point` meets its contract. Assumes nothing.
use Rattle.pass_2d.specs.Pass.{finite_point}
use Rattle.pass_2d.proofs.is_finite_point.Goals as goal

pub returns-then-is_finite : goal.returns-then-is_finite
unfolding finite_point
returns-then-is_finite c = simp (← c.is_finite-then-is_finite.ensures, c.if-is_finite.true, ← c.is_finite.ensures)

pub returns-else-is_finite : goal.returns-else-is_finite
unfolding finite_point
returns-else-is_finite c = simp (c.if-is_finite.false, ← c.is_finite.ensures)
