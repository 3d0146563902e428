-- `relaxation::solve_3d::middle_point` meets its contract. Assumes nothing.
use Rattle.relaxation.specs.Relax.{midpoint}
use Rattle.relaxation.proofs.solve_3d.middle_point.Goals as goal

pub returns : goal.returns
unfolding midpoint
returns c = simp (← c.mul.ensures, ← c.add.ensures)
