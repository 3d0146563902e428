-- `daily_tally::add_outcome` meets its contract. Assumes nothing.
use Rattle.daily_tally.specs.Adding.{with_outcome}
use Rattle.daily_tally.proofs.add_outcome.Goals as goal

pub returns : goal.returns
unfolding with_outcome
returns c = simp (← c.names_line.ensures, ← c.max.ensures)
