-- `scene_writer::put::put_scene` meets its contract. Assumes nothing.
use Prim.Native.Nat.{◌+◌, ◌*◌}
use mathlib.Core.Path.{refl, ap, ◌∙◌}
use native.Mathlib.Omega.{arith}
use lib.ListN.{length}
use lib.Seq.{sets}
use Rattle.fields.proofs.WordLaws.{pair-stored}
use Rattle.scene_writer.proofs.Accepted.{Fits, scene-put}
use Rattle.scene_writer.proofs.put.put_scene.Goals as goal

pub returns : goal.returns
returns c =
    let a = c.args.parts in
    let fits : Fits a.obstacles a.kinds.now a.counts.now a.vertices.now a.neighbours
    a.lines.now = record {
      walls = record {
        few = c.requires.4;
        kinds = c.requires.0;
        counts = c.requires.1;
        vertices = c.requires.2;
        most = omega (arith, c.requires.2, c.requires.6);
      };
      few = c.requires.5;
      lines = c.requires.3;
    } in
    scene-put a.cart a.obstacles a.kinds.now a.counts.now a.vertices.now a.neighbours
    a.lines.now fits (40 + 2 * a.obstacles + 4 * length a.vertices.now) _ c.args.buffer.now _ _ _ _ _ _
    _ refl (omega arith)
    (c.put_pair.ensures ∙ ap (sets c.args.buffer.now 0) (pair-stored _))
    (rw c.byte.ensures at c.put_byte.ensures) c.put_cart.ensures
    c.put_byte-2.ensures c.put_obstacles.ensures c.put_byte-3.ensures
    c.put_numbers.ensures
