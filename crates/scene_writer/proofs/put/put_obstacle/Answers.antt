-- `scene_writer::put::put_obstacle` meets its contract. Assumes nothing.
use Prim.Native.Nat.{◌+◌, ◌-◌, ◌*◌}
use mathlib.Core.Path.{◌≡◌}
use native.Mathlib.Omega.{arith}
use Rattle.scene_writer.proofs.PutLaws.{obstacle-put}
use Rattle.scene_writer.proofs.put.put_obstacle.Goals as goal

pub returns : goal.returns
returns c =
    let a = c.args in
    let size : 2 * (a.start + a.count) - 2 * a.start ≡ 2 * a.count = omega arith in
    obstacle-put a.kind a.count a.start a.vertices.now c.requires.1 a.buffer.now _ _ _ a.at
    c.put_byte.ensures c.put_byte-2.ensures (rw size at c.put_numbers.ensures)
