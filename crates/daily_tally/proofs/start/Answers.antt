-- `daily_tally::start` meets its contract. Assumes nothing.
use Rattle.daily_tally.specs.Steps.{going}
use Rattle.daily_tally.proofs.start.Goals as goal

pub returns : goal.returns
unfolding going
returns c = rw c.nothing.ensures
