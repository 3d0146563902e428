-- `fallback_index::questions::judge_range` meets its contract. Assumes nothing.
use Rattle.std.proofs.Common.{rules}
use Rattle.fallback_index.specs.Questions.{range_fault}
use Rattle.fallback_index.proofs.questions.judge_range.Goals as goal

pub returns-in_err-unless : goal.returns-in_err-unless
unfolding range_fault
returns-in_err-unless c = rw (← c.in_err-unless.ensures) (search rules)

pub returns-in_err-unless-2 : goal.returns-in_err-unless-2
unfolding range_fault
returns-in_err-unless-2 c = rw (← c.in_ok-unless.ensures, ← c.in_err-unless-2.ensures) (search rules)

pub returns-in_err-unless-3 : goal.returns-in_err-unless-3
unfolding range_fault
returns-in_err-unless-3 c = rw (← c.in_ok-unless.ensures, ← c.in_ok-unless-2.ensures, ← c.in_err-unless-3.ensures) (search rules)

pub returns : goal.returns
unfolding range_fault
returns c = rw (← c.in_ok-unless.ensures, ← c.in_ok-unless-2.ensures, ← c.in_ok-unless-3.ensures) (search rules)
