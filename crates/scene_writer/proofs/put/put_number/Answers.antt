-- `scene_writer::put::put_number` meets its contract. Assumes nothing.
use mathlib.Core.Path.{ap, ◌∙◌}
use lib.Seq.{sets}
use Rattle.fields.specs.Bytes.{big_endian}
use Rattle.fields.proofs.WordLaws.{word-stored}
use Rattle.scene_records.specs.SceneBytes.{number_bytes}
use Rattle.scene_writer.proofs.put.put_number.Goals as goal

pub returns : goal.returns
unfolding number_bytes
returns c =
    c.put_word.ensures ∙ ap (sets _ _) (word-stored _ ∙ ap (big_endian 4) c.pattern.ensures)
