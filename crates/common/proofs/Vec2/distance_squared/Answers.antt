-- `common::Vec2::distance_squared` meets its contract. Assumes nothing.
use Rattle.common.specs.Vectors.{distance_squared_of}
use Rattle.common.proofs.Vec2.distance_squared.Goals as goal

pub returns : goal.returns
unfolding distance_squared_of
returns c = cc
