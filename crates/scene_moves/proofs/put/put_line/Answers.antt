-- `scene_moves::put::put_line` meets its contract. Assumes nothing.
use Rattle.scene_moves.specs.Moves.{number_bytes}
use Rattle.scene_moves.proofs.PutMoves.{numbered-put}
use Rattle.scene_moves.proofs.put.put_line.Goals as goal

pub returns-in-One : goal.returns-in-One
unfolding number_bytes
returns-in-One c = rw c.in-One.is c.put_bytes.ensures

pub returns-in-Two : goal.returns-in-Two
returns-in-Two c = rw c.in-Two.is (numbered-put c.args.buffer.now _ _ _ c.args.at c.put_word.ensures c.put_bytes-in-Two.ensures)
