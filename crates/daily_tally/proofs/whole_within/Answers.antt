-- `daily_tally::whole_within` meets its contract. Assumes nothing.
use Rattle.std.proofs.Common.{le-ltb, lt-ltb}
use Rattle.arithmetic.specs.Binary32.{when◌then◌else◌}
use Rattle.daily_tally.specs.Steps.{whole_within}
use Rattle.daily_tally.proofs.whole_within.Goals as goal

pub returns-then-left-gt0 : goal.returns-then-left-gt0
unfolding whole_within when◌then◌else◌
returns-then-left-gt0 c = simp (lt-ltb _ _ c.if-left-gt0.true, ← c.whole_at.ensures)

pub returns-then-at-part : goal.returns-then-at-part
unfolding whole_within when◌then◌else◌
returns-then-at-part c = simp (le-ltb _ _ c.if-left-gt0.false, lt-ltb _ _ c.if-at-part.true)

pub returns : goal.returns
unfolding whole_within when◌then◌else◌
returns c = simp (le-ltb _ _ c.if-left-gt0.false, le-ltb _ _ c.if-at-part.false)
