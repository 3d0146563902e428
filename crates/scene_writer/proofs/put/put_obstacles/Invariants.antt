-- `scene_writer::put::put_obstacles` meets its contract. The invariant: what is put and what is still to be put make up
-- the whole. Assumes nothing.
use Prim.Native.Nat.{◌+◌, ◌-◌, ◌*◌}
use mathlib.Core.Path.{◌≡◌}
use lib.ListN.{length, drop}
use lib.Seq.{sets}
use Rattle.layouts.specs.Layouts.{vertex_total}
use Rattle.scene_writer.proofs.PutLaws.{wall_bytes, wall_place}
use Rattle.scene_writer.proofs.put.put_obstacles.Given as goal

abbrev pub invariant-loop-i : goal.invariant-loop-i
invariant-loop-i l = record {
  vertices : 2 * l.total + 2 * vertex_total (l.obstacles - l.i) (drop l.i l.counts) ≡ length l.vertices;
  rest : sets l.initial.buffer 40 (wall_bytes l.kinds l.counts l.vertices 0 0 0 0)
      ≡ sets l.buffer (wall_place l.kinds l.counts l.vertices 0 0 l.i l.total) (wall_bytes l.kinds l.counts l.vertices 0 0 l.i l.total);
}
