-- `wall_check::check_edges` meets its contract. The invariant: behind what is known, the edges from that of the vertex
-- i on make the answer. Assumes nothing.
use Prim.Native.Nat.{◌+◌, ◌-◌, ◌/◌, ◌≤◌}
use mathlib.Core.Path.{◌≡◌}
use lib.ListN.{length}
use Rattle.obstacles.specs.Obstacles.{edge_count}
use Rattle.wall_check.specs.Crossings.{walls_from, own_walls, crossed_in, behind, count_in, known_of}
use Rattle.wall_check.proofs.check_edges.Given as goal

abbrev pub invariant-loop-i : goal.invariant-loop-i
invariant-loop-i l = (count_in (known_of l.known) ≤ count_in (known_of l.initial.known) + l.i)
    × (behind (known_of l.initial.known) (crossed_in l.path.from l.path.to (own_walls l.obstacle l.kind l.vertices))
    ≡ behind (known_of l.known) (crossed_in l.path.from l.path.to (walls_from l.obstacle l.kind l.vertices l.i (edge_count l.kind (length l.vertices / 2) - l.i))))
