-- `boltmeadow::scenes::bm_write_scene` meets its contract. Assumes nothing.
use Rattle.boltmeadow.proofs.LeftLaws.{written-left}
use Rattle.boltmeadow.proofs.scenes.bm_write_scene.Goals as goal

pub returns : goal.returns
returns c = written-left _ c.written.ensures
    (rw
    c.cart_in-whole.ensures at c.write_scene-answer.ensures)
