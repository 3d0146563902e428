-- `daily_tally::nothing` meets its contract. Assumes nothing.
use Rattle.std.proofs.Common.{refl}
use Rattle.daily_tally.specs.Figures.{count_of, sum_of, largest_of, below, tally_of}
use Rattle.daily_tally.proofs.nothing.Goals as goal

pub returns : goal.returns
unfolding tally_of below count_of sum_of largest_of
returns c = refl
