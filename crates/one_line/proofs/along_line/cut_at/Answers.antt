-- `one_line::along_line::cut_at` meets its contract. Assumes nothing.
use Rattle.arithmetic.specs.Binary32.{when◌then◌else◌}
use Rattle.one_line.specs.OneLine.{unless_fails, cut}
use Rattle.one_line.proofs.along_line.cut_at.Goals as goal
use Rattle.one_line.proofs.along_line.cut_at.Goals.{then-direction_determinant, else-direction_determinant}

pub returns-then-cut : goal.returns-then-cut
unfolding cut unless_fails when◌then◌else◌
returns-then-cut c = elim c.if-direction_determinant.branch [
  | then-direction_determinant w ↦ simp (← w.min.ensures, w.if-direction_determinant.true, rw w.cut-is at c.if-cut.true)
  | else-direction_determinant w ↦ simp (← w.max.ensures, w.if-direction_determinant.false, rw w.cut-is at c.if-cut.true)
]

pub returns : goal.returns
unfolding cut unless_fails when◌then◌else◌
returns c = elim c.if-direction_determinant.branch [
  | then-direction_determinant w ↦ simp (w.cut-is, ← w.min.ensures, w.if-direction_determinant.true, rw w.cut-is at c.if-cut.false)
  | else-direction_determinant w ↦ simp (w.cut-is, ← w.max.ensures, w.if-direction_determinant.false, rw w.cut-is at c.if-cut.false)
]
