-- `relaxation::solve_3d::tighten` meets its contract. Assumes nothing.
use Rattle.arithmetic.specs.Binary32.{when◌then◌else◌}
use Rattle.admission.specs.Faults.{within}
use Rattle.relaxation.specs.Relax.{tight_at, tighten}
use Rattle.relaxation.proofs.solve_3d.tighten.Goals as goal
use Rattle.relaxation.proofs.solve_3d.tighten.Goals.{then-is_within+else-dot, else-is_within}

pub returns-then-dot : goal.returns-then-dot
unfolding tighten when◌then◌else◌ within
returns-then-dot c = simp (
  c.if-dot.true,
  ← c.dot.ensures,
  c.if-is_within.true,
  ← c.is_within.ensures,
  ← c.determinant-intersection_determinant.ensures,
)

pub returns : goal.returns
unfolding tighten tight_at when◌then◌else◌ within
returns c =
    let made = rw (c.normalize-direction.ensures, c.sub.ensures) at c.new.ensures in
    let near = rw c.determinant-intersection_determinant.ensures at c.is_within.ensures in
    elim c.if-is_within.branch [
      | then-is_within+else-dot w ↦
          simp (made, w.point-is, w.middle_point-point.ensures, ← near, w.if-is_within.true, ← w.dot.ensures, w.if-dot.false)
      | else-is_within w ↦
          simp (made, w.point-is, w.intersection_point-point.ensures, ← near, w.if-is_within.false)
    ]
