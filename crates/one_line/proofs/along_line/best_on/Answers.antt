-- `one_line::along_line::best_on` meets its contract. Assumes nothing.
use Rattle.arithmetic.specs.Binary32.{when◌then◌else◌}
use Rattle.one_line.specs.OneLine.{choose}
use Rattle.one_line.proofs.along_line.best_on.Goals as goal
use Rattle.one_line.proofs.along_line.best_on.Goals.{in-Direction+then-dot, in-Direction+else-dot, in-Point+then-ends}

pub returns-else-ends : goal.returns-else-ends
unfolding choose when◌then◌else◌
returns-else-ends c = simp (c.if-ends.false, c.in-Point.is)

pub returns : goal.returns
unfolding choose when◌then◌else◌
returns c = elim c.match-optimal_value.branch [
  | in-Direction+then-dot w ↦
      let p = rw w.t-is at c.point_on.ensures in
      simp (w.in-Direction.is, ← w.dot.ensures, w.if-dot.true, p)
  | in-Direction+else-dot w ↦
      let p = rw w.t-is at c.point_on.ensures in
      simp (w.in-Direction.is, ← w.dot.ensures, w.if-dot.false, p)
  | in-Point+then-ends w ↦
      let p = rw (w.t-is, w.clamp.ensures, w.dot-then-ends.ensures, w.sub.ensures) at c.point_on.ensures in
      simp (w.in-Point.is, w.if-ends.true, p)
]
