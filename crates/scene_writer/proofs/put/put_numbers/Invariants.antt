-- `scene_writer::put::put_numbers` meets its contract. The invariant: what is put and what is still to be put make up
-- the whole. Assumes nothing.
use Prim.Native.Nat.{◌+◌, ◌*◌}
use mathlib.Core.Path.{◌≡◌}
use lib.ListN.{drop}
use lib.Seq.{sets}
use Rattle.fields.specs.Bytes.{each}
use Rattle.scene_records.specs.SceneBytes.{number_bytes}
use Rattle.scene_writer.proofs.put.put_numbers.Given as goal

abbrev pub invariant-loop-k : goal.invariant-loop-k
invariant-loop-k l = sets l.initial.buffer l.at (each number_bytes l.numbers)
    ≡ sets l.buffer (l.at + 4 * l.k) (each number_bytes (drop l.k l.numbers))
