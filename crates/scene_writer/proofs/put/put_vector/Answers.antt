-- `scene_writer::put::put_vector` meets its contract. Assumes nothing.
use Rattle.scene_writer.proofs.PutLaws.{vector-put}
use Rattle.scene_writer.proofs.put.put_vector.Goals as goal

pub returns : goal.returns
returns c =
    let a = c.args in
    vector-put a.buffer.now _ _ a.at a.v c.put_number.ensures
    c.put_number-2.ensures
