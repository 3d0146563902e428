-- `one_line::along_line::narrow_by` meets its contract. Assumes nothing.
use Rattle.arithmetic.specs.Binary32.{when◌then◌else◌}
use Rattle.admission.specs.Faults.{within}
use Rattle.one_line.specs.OneLine.{unless_fails, narrow}
use Rattle.one_line.proofs.along_line.narrow_by.Goals as goal

pub returns-then-numerator : goal.returns-then-numerator
unfolding narrow unless_fails when◌then◌else◌ within
returns-then-numerator c = simp (
  c.if-numerator.true,
  c.if-is_within.true,
  ← c.is_within.ensures,
  ← c.determinant-numerator.ensures,
  ← c.sub.ensures,
  ← c.determinant-direction_determinant.ensures,
)

pub returns-then-is_within : goal.returns-then-is_within
unfolding narrow unless_fails when◌then◌else◌ within
returns-then-is_within c = simp (
  c.if-numerator.false,
  c.if-is_within.true,
  ← c.is_within.ensures,
  ← c.determinant-numerator.ensures,
  ← c.sub.ensures,
  ← c.determinant-direction_determinant.ensures,
)

pub returns : goal.returns
unfolding narrow when◌then◌else◌ within
returns c = simp (
  ← c.cut_at.ensures,
  c.if-is_within.false,
  ← c.is_within.ensures,
  ← c.determinant-numerator.ensures,
  ← c.sub.ensures,
  ← c.determinant-direction_determinant.ensures,
)
