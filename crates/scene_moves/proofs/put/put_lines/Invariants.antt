-- `scene_moves::put::put_lines` meets its contract. Assumes nothing.
use Rattle.scene_moves.proofs.PutMoves.{Putting}
use Rattle.scene_moves.proofs.put.put_lines.Given as goal

abbrev pub invariant-loop-i : goal.invariant-loop-i
invariant-loop-i l = Putting l.from l.to l.initial.buffer l.source l.start l.count l.buffer l.i
