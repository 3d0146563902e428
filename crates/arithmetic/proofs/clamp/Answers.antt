-- `arithmetic::clamp` meets its contract. Assumes nothing.
use Rattle.arithmetic.specs.Binary32.{when◌then◌else◌}
use Rattle.arithmetic.specs.Ends.{clamp_of}
use Rattle.arithmetic.proofs.clamp.Goals as goal

pub returns-then-x-left : goal.returns-then-x-left
unfolding clamp_of when◌then◌else◌
returns-then-x-left c = simp c.if-x-left.true

pub returns-then-x-right : goal.returns-then-x-right
unfolding clamp_of when◌then◌else◌
returns-then-x-right c = simp (c.if-x-left.false, c.if-x-right.true)

pub returns : goal.returns
unfolding clamp_of when◌then◌else◌
returns c = simp (c.if-x-left.false, c.if-x-right.false)
