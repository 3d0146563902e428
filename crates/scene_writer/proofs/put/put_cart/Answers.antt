-- `scene_writer::put::put_cart` meets its contract. Assumes nothing.
use Rattle.scene_writer.proofs.PutLaws.{cart-put}
use Rattle.scene_writer.proofs.put.put_cart.Goals as goal

pub returns : goal.returns
returns c =
    let a = c.args in
    cart-put a.cart a.buffer.now _ _ _ _ _ _ c.put_vector.ensures c.put_vector-2.ensures
    c.put_number.ensures c.put_number-2.ensures c.put_vector-3.ensures
    c.put_number-3.ensures
