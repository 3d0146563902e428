-- `obstacles::obstacle::lines_for_edges` meets its contract. The invariant: the lines of the first i edges stand in the
-- numbers, blank behind them. Assumes nothing.
use Prim.Native.Nat.{◌*◌, ◌/◌, ◌≤◌}
use mathlib.Core.Path.{◌≡◌}
use lib.ListN.{length, take}
use Rattle.lines.specs.Lines.{lines_of}
use Rattle.obstacles.specs.Vertices.{vertices_of}
use Rattle.obstacles.specs.Obstacles.{lines as standing, lines_up_to}
use Rattle.obstacles.proofs.Filled.{Filled}
use Rattle.obstacles.proofs.obstacle.lines_for_edges.Given as goal

abbrev pub invariant-loop-i : goal.invariant-loop-i
invariant-loop-i l = (l.count ≤ l.i) × (l.edges ≤ 64) × (l.edges ≤ length l.asked.outline.vertices.now / 2) × Filled l.count l.lines
    × (lines_up_to l.asked.agent l.asked.outline.kind (length l.asked.outline.vertices.now / 2) (vertices_of l.asked.outline.vertices.now)
    l.asked.margin l.asked.horizon l.i
    ≡ standing (lines_of (take (4 * l.count) l.lines)))
