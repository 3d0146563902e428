-- `common::Vec2::neg` meets its contract. Assumes nothing.
use mathlib.Core.Path.{refl}
use Rattle.common.specs.Vectors.{neg_of}
use Rattle.common.proofs.Vec2.neg.Goals as goal

pub returns : goal.returns
unfolding neg_of
returns c = refl
