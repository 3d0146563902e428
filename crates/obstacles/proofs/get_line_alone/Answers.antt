-- `obstacles::get_line_alone` meets its contract. Assumes nothing.
use native.Mathlib.Omega.{arith}
use Rattle.obstacles.proofs.EdgesInOrder.{few-counted}
use Rattle.obstacles.proofs.get_line_alone.Goals as goal

pub admitted_line-requires : goal.admitted_line-requires
admitted_line-requires c = omega (arith, few-counted _ _ c.edge_count.ensures)
