-- `fallback_index::questions::count_between` meets its contract. Assumes nothing.
use Rattle.arithmetic.specs.Binary32.{when◌then◌else◌}
use borrow.Author.Tests.{lt-ltb, le-ltb}
use Rattle.fallback_index.proofs.questions.count_between.Goals as goal

pub returns-then-before_b-before_a : goal.returns-then-before_b-before_a
unfolding when◌then◌else◌
returns-then-before_b-before_a c = simp (lt-ltb _ _ c.if-before_b-before_a.true)

pub returns : goal.returns
unfolding when◌then◌else◌
returns c = simp (le-ltb _ _ c.if-before_b-before_a.false)
