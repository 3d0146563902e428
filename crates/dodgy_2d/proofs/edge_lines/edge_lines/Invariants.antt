-- `dodgy_2d::edge_lines::edge_lines` meets its contract. The invariant: the lines of the obstacles before i, joined
-- with what the rest makes, are all of them, and so are their origins. Assumes nothing.
use Prim.Native.Nat.{◌+◌, ◌*◌, ◌≤◌}
use mathlib.Core.Path.{◌≡◌}
use mathlib.Core.List.{◌++◌}
use lib.ListN.{length, take}
use Rattle.lines.specs.Lines.{lines_of}
use Rattle.obstacles.specs.Obstacles.{lines}
use Rattle.dodgy_2d.specs.Outcomes.{joined, edge_lines}
use Rattle.dodgy_2d.specs.Origins.{edge_origins}
use Rattle.dodgy_2d.specs.Read.{walls_in}
use Rattle.dodgy_2d.specs.Admitted.{vertex_count}
use Rattle.dodgy_2d.proofs.HeadsInOrder.{heads_from}
use Rattle.dodgy_2d.proofs.edge_lines.edge_lines.Given as goal

abbrev pub invariant-loop-i : goal.invariant-loop-i
invariant-loop-i l =
    let s = l.scene-inside in
    let k = l.cart in
    let n = k.obstacles in
    (l.count ≤ l.offset)
    × (l.offset ≤ 192)
    × (2 * l.offset ≤ length s.vertices.now)
    × (l.offset + vertex_count (heads_from s.kinds s.counts n l.i) ≡ vertex_count (heads_from s.kinds s.counts n 0))
    × (edge_lines k.agent k.margin k.horizon s.vertices.now 0 (heads_from s.kinds s.counts n 0)
    ≡ joined (lines (lines_of (take (4 * l.count) l.lines.numbers))) (edge_lines k.agent k.margin k.horizon s.vertices.now
    l.offset (heads_from s.kinds s.counts n l.i)))
    × (edge_origins k.agent k.margin k.horizon s.vertices.now 0 0 (heads_from s.kinds s.counts n 0)
    ≡ walls_in l.count l.lines.walls ++ edge_origins k.agent k.margin k.horizon s.vertices.now l.i l.offset
    (heads_from s.kinds s.counts n l.i))
