-- `fallback_index::appends::judge_grown` meets its contract. Assumes nothing.
use Rattle.std.proofs.Common.{rules, eq-eqb, ne_eqb}
use Rattle.arithmetic.specs.Binary32.{when◌then◌else◌}
use Rattle.fallback_index.specs.Appends.{new_entry_fits, grown_fault}
use Rattle.fallback_index.proofs.appends.judge_grown.Goals as goal

pub returns-in_err-unless : goal.returns-in_err-unless
unfolding grown_fault
returns-in_err-unless c = rw (← c.in_err-unless.ensures) (search rules)

pub returns-in_err-unless-2 : goal.returns-in_err-unless-2
unfolding grown_fault
returns-in_err-unless-2 c = rw (← c.in_ok-unless.ensures, ← c.in_err-unless-2.ensures) (search rules)

pub returns-then-extent-eq0 : goal.returns-then-extent-eq0
unfolding grown_fault new_entry_fits when◌then◌else◌
returns-then-extent-eq0 c =
    rw (← c.in_ok-unless.ensures, ← c.in_ok-unless-2.ensures, eq-eqb _ _ c.if-extent-eq0.true) (search rules)

pub returns : goal.returns
unfolding grown_fault new_entry_fits when◌then◌else◌
returns c = rw (← c.in_ok-unless.ensures, ← c.in_ok-unless-2.ensures, ne_eqb _ _ c.if-extent-eq0.false) (search rules)
