-- `common::Vec2::add` meets its contract. Assumes nothing.
use mathlib.Core.Path.{refl}
use Rattle.common.specs.Vectors.{add_of}
use Rattle.common.proofs.Vec2.add.Goals as goal

pub returns : goal.returns
unfolding add_of
returns c = refl
