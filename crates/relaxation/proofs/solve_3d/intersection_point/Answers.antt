-- `relaxation::solve_3d::intersection_point` meets its contract. Assumes nothing.
use Rattle.one_line.specs.OneLine.{point_on}
use Rattle.relaxation.specs.Relax.{intersection}
use Rattle.relaxation.proofs.solve_3d.intersection_point.Goals as goal

pub returns : goal.returns
unfolding intersection point_on
returns c = simp (
  ← c.add.ensures,
  ← c.mul.ensures,
  ← c.determinant.ensures,
  ← c.sub-apart.ensures,
  ← c.determinant-intersection_determinant.ensures,
)
