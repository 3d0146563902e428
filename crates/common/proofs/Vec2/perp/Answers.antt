-- `common::Vec2::perp` meets its contract. Assumes nothing.
use mathlib.Core.Path.{refl}
use Rattle.common.specs.Vectors.{perp_of}
use Rattle.common.proofs.Vec2.perp.Goals as goal

pub returns : goal.returns
unfolding perp_of
returns c = refl
