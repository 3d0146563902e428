-- `scene_records::walls::obstacles_at` meets its contract. The invariant: what is stored and what is still to be read
-- make up the whole. Assumes nothing.
use Prim.Native.Nat.{◌-◌, ◌≤◌}
use mathlib.Core.Path.{◌≡◌}
use Rattle.scene_records.specs.Parts.{obstacles, walls, stored_walls}
use Rattle.scene_records.proofs.walls.obstacles_at.Given as goal

abbrev pub invariant-loop-i : goal.invariant-loop-i
invariant-loop-i l = record {
  room : l.total ≤ 192;
  rest : stored_walls (walls l.initial.kinds l.initial.counts l.initial.vertices) 0 0 (obstacles l.bytes l.count 0 l.at)
      ≡ stored_walls (walls l.kinds l.counts l.vertices) l.i l.total (obstacles l.bytes (l.count - l.i) l.total l.next);
}
