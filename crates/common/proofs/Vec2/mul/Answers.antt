-- `common::Vec2::mul` meets its contract. Assumes nothing.
use mathlib.Core.Path.{refl}
use Rattle.common.specs.Vectors.{mul_of}
use Rattle.common.proofs.Vec2.mul.Goals as goal

pub returns : goal.returns
unfolding mul_of
returns c = refl
