-- `pass_2d::solve_2d::start_value` meets its contract. Assumes nothing.
use Rattle.arithmetic.specs.Binary32.{when◌then◌else◌}
use Rattle.pass_2d.specs.Pass.{start}
use Rattle.pass_2d.proofs.solve_2d.start_value.Goals as goal

pub returns-then-length_squared-radius : goal.returns-then-length_squared-radius
unfolding start when◌then◌else◌
returns-then-length_squared-radius c = simp (
  ← c.mul-then-length_squared-radius.ensures,
  ← c.normalize.ensures,
  c.if-length_squared-radius.true,
  ← c.length_squared.ensures,
  c.in-Point.is,
)

pub returns-in-Direction : goal.returns-in-Direction
unfolding start when◌then◌else◌
returns-in-Direction c = simp (← c.mul.ensures, c.in-Direction.is)

pub returns-else-length_squared-radius : goal.returns-else-length_squared-radius
unfolding start when◌then◌else◌
returns-else-length_squared-radius c = simp (
  c.if-length_squared-radius.false,
  ← c.length_squared.ensures,
  c.in-Point.is,
)
