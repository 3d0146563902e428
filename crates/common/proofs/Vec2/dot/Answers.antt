-- `common::Vec2::dot` meets its contract. Assumes nothing.
use mathlib.Core.Path.{refl}
use Rattle.common.specs.Vectors.{dot_of}
use Rattle.common.proofs.Vec2.dot.Goals as goal

pub returns : goal.returns
unfolding dot_of
returns c = refl
