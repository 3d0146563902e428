-- `common::Vec2::eq` meets its contract. Assumes nothing.
use Rattle.std.proofs.Common.{rules}
use Rattle.common.specs.Vectors.{eq_of}
use Rattle.common.proofs.Vec2.eq.Goals as goal

pub returns : goal.returns
unfolding eq_of
returns c = search rules
