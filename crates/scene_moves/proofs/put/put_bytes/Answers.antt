-- `scene_moves::put::put_bytes` meets its contract. Assumes nothing.
use Rattle.scene_moves.proofs.PutMoves.{part-put}
use Rattle.scene_moves.proofs.put.put_bytes.Goals as goal

pub returns : goal.returns
returns c =
    let a = c.args in
    part-put a.buffer.now a.source.now _ a.at a.from a.count c.requires.1 c.requires.0 c.copy_from_slice.ensures.after
