-- `scene_records::walls::vertices_at` meets its contract. The invariant: what is stored and what is still to be read
-- make up the whole. Assumes nothing.
use Prim.Native.Nat.{◌+◌, ◌-◌, ◌*◌}
use mathlib.Core.Path.{◌≡◌}
use Rattle.edges.specs.Read.{outer_of}
use Rattle.obstacles.specs.Doubled.{none_before}
use Rattle.scene_records.specs.Parts.{coordinates, vertices_at, stored}
use Rattle.scene_records.proofs.walls.vertices_at.Given as goal

abbrev pub invariant-loop-i : goal.invariant-loop-i
invariant-loop-i l = stored coordinates l.initial.vertices (2 * l.start) (vertices_at l.bytes none_before l.count l.at)
    ≡ stored coordinates l.vertices (2 * (l.start + l.i)) (vertices_at l.bytes (outer_of l.previous) (l.count - l.i) l.next)
