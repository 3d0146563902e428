-- `scene_writer::put::put_byte` meets its contract. Assumes nothing.
use Prim.Native.Nat.{◌%◌}
use mathlib.Core.Path.{◌≡◌}
use native.Mathlib.Omega.{arith}
use native.Mathlib.Nat.{div-one}
use Rattle.fields.specs.Bytes.{big_endian}
use Rattle.scene_writer.proofs.put.put_byte.Goals as goal

pub returns : goal.returns
unfolding big_endian
returns c =
    let low : c.args.x % 256 ≡ c.args.x = omega arith in
    simp (div-one, low)
