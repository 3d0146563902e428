-- `common::Vec2::div` meets its contract. Assumes nothing.
use mathlib.Core.Path.{refl}
use Rattle.common.specs.Vectors.{div_of}
use Rattle.common.proofs.Vec2.div.Goals as goal

pub returns : goal.returns
unfolding div_of
returns c = refl
