-- `obstacles::edge_ends` meets its contract. Assumes nothing.
use native.Mathlib.Omega.{arith}
use Rattle.obstacles.proofs.EdgesInOrder.{few-counted}
use Rattle.obstacles.proofs.edge_ends.Goals as goal

pub next_index-right_index-requires : goal.next_index-right_index-requires
next_index-right_index-requires c = omega (arith, few-counted _ _ c.edge_count.ensures)

pub vertex_at-left-requires : goal.vertex_at-left-requires
vertex_at-left-requires c = omega (arith, few-counted _ _ c.edge_count.ensures)
