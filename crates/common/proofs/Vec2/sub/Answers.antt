-- `common::Vec2::sub` meets its contract. Assumes nothing.
use mathlib.Core.Path.{refl}
use Rattle.common.specs.Vectors.{sub_of}
use Rattle.common.proofs.Vec2.sub.Goals as goal

pub returns : goal.returns
unfolding sub_of
returns c = refl
