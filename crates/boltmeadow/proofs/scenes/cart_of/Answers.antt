-- `boltmeadow::scenes::cart_of` meets its contract. Assumes nothing.
use mathlib.Core.Path.{refl}
use Rattle.boltmeadow.specs.Scenes.{cart_of}
use Rattle.boltmeadow.proofs.scenes.cart_of.Goals as goal

pub returns : goal.returns
unfolding cart_of
returns c = refl
