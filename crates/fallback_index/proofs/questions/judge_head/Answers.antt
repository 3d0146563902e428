-- `fallback_index::questions::judge_head` meets its contract. Assumes nothing.
use Rattle.std.proofs.Common.{rules}
use Rattle.fallback_index.specs.Questions.{head_fault}
use Rattle.fallback_index.proofs.questions.judge_head.Goals as goal

pub returns-in_err-unless : goal.returns-in_err-unless
unfolding head_fault
returns-in_err-unless c = rw (← c.in_err-unless.ensures) (search rules)

pub returns-in_err-unless-2 : goal.returns-in_err-unless-2
unfolding head_fault
returns-in_err-unless-2 c = rw (← c.in_ok-unless.ensures, ← c.word_at.ensures, ← c.in_err-unless-2.ensures) (search rules)

pub returns-in_err-unless-3 : goal.returns-in_err-unless-3
unfolding head_fault
returns-in_err-unless-3 c = rw (← c.in_ok-unless.ensures, ← c.word_at.ensures, ← c.in_ok-unless-2.ensures, ← c.in_err-unless-3.ensures) (search rules)

pub returns-in_err-unless-4 : goal.returns-in_err-unless-4
unfolding head_fault
returns-in_err-unless-4 c = rw (← c.in_ok-unless.ensures, ← c.word_at.ensures, ← c.in_ok-unless-2.ensures, ← c.in_ok-unless-3.ensures, ← c.version_of.ensures, ← c.in_err-unless-4.ensures) (search rules)

pub returns-in_err-unless-5 : goal.returns-in_err-unless-5
unfolding head_fault
returns-in_err-unless-5 c = rw (← c.in_ok-unless.ensures, ← c.word_at.ensures, ← c.in_ok-unless-2.ensures, ← c.in_ok-unless-3.ensures, ← c.version_of.ensures, ← c.in_ok-unless-4.ensures, ← c.in_err-unless-5.ensures) (search rules)

pub returns : goal.returns
unfolding head_fault
returns c = rw (← c.in_ok-unless.ensures, ← c.word_at.ensures, ← c.in_ok-unless-2.ensures, ← c.in_ok-unless-3.ensures, ← c.version_of.ensures, ← c.in_ok-unless-4.ensures, ← c.in_ok-unless-5.ensures, ← c.word_at-count.ensures) (search rules)
