-- `common::time_to_intersect_lines` meets its contract. Assumes nothing.
use Rattle.arithmetic.specs.Binary32.{when◌then◌else◌}
use Rattle.common.specs.Meetings.{times_of}
use Rattle.common.proofs.time_to_intersect_lines.Goals as goal

pub returns-then-matrix_determinant : goal.returns-then-matrix_determinant
unfolding times_of when◌then◌else◌
returns-then-matrix_determinant c = simp (
  c.if-matrix_determinant.true,
  ← c.determinant-matrix_determinant.ensures,
  ← c.sub-line_2_delta.ensures,
  ← c.sub-line_1_delta.ensures,
  ← c.sub-relative_line_1_start.ensures,
)

pub returns : goal.returns
unfolding times_of when◌then◌else◌
returns c =
    simp (
      ← c.div.ensures,
      ← c.new.ensures,
      ← c.determinant-along_2.ensures,
      ← c.determinant-along_1.ensures,
      c.if-matrix_determinant.false,
      ← c.determinant-matrix_determinant.ensures,
      ← c.sub-line_2_delta.ensures,
      ← c.sub-line_1_delta.ensures,
      ← c.sub-relative_line_1_start.ensures,
    )
