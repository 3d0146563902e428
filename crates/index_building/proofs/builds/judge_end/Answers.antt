-- `index_building::builds::judge_end` meets its contract. Assumes nothing.
use Rattle.std.proofs.Common.{rules}
use Rattle.index_building.specs.Builds.{end_fault}
use Rattle.index_building.proofs.builds.judge_end.Goals as goal

pub returns-in_err-unless : goal.returns-in_err-unless
unfolding end_fault
returns-in_err-unless c = rw (← c.in_err-unless.ensures) (search rules)

pub returns-in_err-unless-2 : goal.returns-in_err-unless-2
unfolding end_fault
returns-in_err-unless-2 c = rw (← c.in_ok-unless.ensures, ← c.in_err-unless-2.ensures) (search rules)

pub returns : goal.returns
unfolding end_fault
returns c = rw (← c.in_ok-unless.ensures, ← c.in_ok-unless-2.ensures) c.unless-3.ensures
