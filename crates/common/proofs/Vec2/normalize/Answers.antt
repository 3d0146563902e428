-- `common::Vec2::normalize` meets its contract. Assumes nothing.
use Rattle.common.specs.Vectors.{normalize_of}
use Rattle.common.proofs.Vec2.normalize.Goals as goal

pub returns : goal.returns
unfolding normalize_of
returns c = cc
