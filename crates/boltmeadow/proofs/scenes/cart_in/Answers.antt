-- `boltmeadow::scenes::cart_in` meets its contract. Assumes nothing.
use mathlib.Core.Path.{refl}
use Rattle.boltmeadow.specs.Scenes.{cart_in}
use Rattle.boltmeadow.proofs.scenes.cart_in.Goals as goal

pub returns : goal.returns
unfolding cart_in
returns c = refl
