-- `daily_tally::add_refusal` meets its contract. Assumes nothing.
use Rattle.std.proofs.Common.{refl}
use Rattle.daily_tally.specs.Adding.{with_refusal}
use Rattle.daily_tally.proofs.add_refusal.Goals as goal

pub returns : goal.returns
unfolding with_refusal
returns c = refl
