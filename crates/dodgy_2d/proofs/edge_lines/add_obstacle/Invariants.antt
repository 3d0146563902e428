-- `dodgy_2d::edge_lines::add_obstacle` meets its contract. The invariant: what its first i edges make stands behind the
-- `count` lines, their walls are noted beside it, and the lines before it are as they were. Assumes nothing.
use Prim.Native.Nat.{◌+◌, ◌*◌, ◌/◌, ◌≤◌, ◌<◌}
use mathlib.Core.Path.{◌≡◌}
use mathlib.Core.List.{◌++◌, map}
use lib.ListN.{length, take, drop}
use Rattle.lines.specs.Lines.{lines_of}
use Rattle.lines.specs.Origins.{edge_origin}
use Rattle.obstacles.specs.Vertices.{vertices_of}
use Rattle.obstacles.specs.Obstacles.{lines as standing, lines_up_to, makers_up_to}
use Rattle.dodgy_2d.specs.Read.{walls_in}
use Rattle.dodgy_2d.proofs.edge_lines.add_obstacle.Given as goal

abbrev pub invariant-loop-i : goal.invariant-loop-i
invariant-loop-i l = (l.own ≤ l.i) × (l.i-end ≤ length l.vertices / 2) × (l.count + length l.vertices / 2 ≤ 192) × (l.place < 16)
    × (length l.lines.numbers ≡ 1024) × (length l.lines.walls ≡ 192)
    × (take (4 * l.count) l.lines.numbers ≡ take (4 * l.count) l.initial.lines.numbers)
    × (lines_up_to l.cart.agent l.kind (length l.vertices / 2) (vertices_of l.vertices) l.cart.margin l.cart.horizon l.i
    ≡ standing (lines_of (take (4 * l.own) (drop (4 * l.count) l.lines.numbers))))
    × (walls_in (l.count + l.own) l.lines.walls
    ≡ walls_in l.count l.initial.lines.walls ++ map (edge_origin l.place) (makers_up_to l.cart.agent l.kind (length l.vertices / 2)
    (vertices_of l.vertices) l.cart.margin l.cart.horizon l.i))
