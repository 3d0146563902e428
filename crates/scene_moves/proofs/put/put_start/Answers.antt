-- `scene_moves::put::put_start` meets its contract. Assumes nothing.
use mathlib.Core.Path.{refl, ap, ◌∙◌}
use native.Mathlib.Omega.{arith}
use lib.ListN.{length-set}
use lib.Seq.{sets}
use Rattle.fields.proofs.WordLaws.{pair-stored}
use Rattle.scene_moves.proofs.PutMoves.{start-put}
use Rattle.scene_moves.proofs.put.put_start.Goals as goal

pub put_bytes-requires : goal.put_bytes-requires
put_bytes-requires c =
    (omega (arith, c.requires), simp length-set (omega (arith, c.put_pair.auto.s, c.requires)))

pub shape_of-buffer : goal.shape_of-buffer
shape_of-buffer c = c.put_bytes.auto.buffer
    ∙ simp length-set c.put_pair.auto.s

pub returns : goal.returns
returns c =
    let a = c.args in
    start-put a.buffer.now _ _ _ a.source.now a.size _ a.start
    (c.put_pair.ensures ∙ ap (sets a.buffer.now 0) (pair-stored _)) (rw c.byte.ensures refl)
    c.put_bytes.ensures
