-- `common::Vec2::length_squared` meets its contract. Assumes nothing.
use Rattle.common.specs.Vectors.{length_squared_of}
use Rattle.common.proofs.Vec2.length_squared.Goals as goal

pub returns : goal.returns
unfolding length_squared_of
returns c = c.dot.ensures
