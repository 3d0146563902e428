-- `one_line::along_line::circle_interval` meets its contract. Assumes nothing.
use Rattle.arithmetic.specs.Binary32.{when◌then◌else◌}
use Rattle.one_line.specs.OneLine.{chord}
use Rattle.one_line.proofs.along_line.circle_interval.Goals as goal

pub returns-then-discriminant : goal.returns-then-discriminant
unfolding chord when◌then◌else◌
returns-then-discriminant c = simp (c.if-discriminant.true, ← c.dot.ensures, ← c.dot-line_dot_product.ensures)

pub returns : goal.returns
unfolding chord when◌then◌else◌
returns c = rw (
  ← c.dot-line_dot_product.ensures,
  ← c.dot.ensures,
  c.if-discriminant.false,
  ← c.sqrt-root.ensures,
)
