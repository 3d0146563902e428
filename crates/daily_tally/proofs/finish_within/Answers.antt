-- `daily_tally::finish_within` meets its contract. Assumes nothing.
use Rattle.std.proofs.Common.{rules, le-ltb, lt-ltb}
use Rattle.daily_tally.specs.Steps.{told_whole, told_beside, finished}
use Rattle.daily_tally.proofs.finish_within.Goals as goal

pub returns-in_err-progress : goal.returns-in_err-progress
unfolding told_beside finished
returns-in_err-progress c =
    let walk = c.in_err-progress.ensures in
    (rw (← walk.0) (search rules), walk.1)

pub returns-then-progress-rest : goal.returns-then-progress-rest
unfolding told_beside finished
returns-then-progress-rest c =
    let walk = c.in_ok-progress.ensures in
    (simp (← walk.0, lt-ltb _ _ c.if-progress-rest.true), walk.1)

pub returns : goal.returns
unfolding told_whole finished
returns c =
    let walk = c.in_ok-progress.ensures in
    (simp (← walk.0, le-ltb _ _ c.if-progress-rest.false), walk.1)
