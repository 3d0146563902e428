-- `relaxation::solve_3d::depth_in` meets its contract. Assumes nothing.
use Rattle.relaxation.specs.Relax.{depth_in}
use Rattle.relaxation.proofs.solve_3d.depth_in.Goals as goal

pub returns : goal.returns
unfolding depth_in
returns c = simp (← c.determinant.ensures, ← c.sub.ensures)
