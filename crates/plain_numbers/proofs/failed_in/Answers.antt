-- `plain_numbers::failed_in` meets its contract. Assumes nothing.
use borrow.Author.Tests.{eq-eqb, ne_eqb}
use Rattle.arithmetic.specs.Binary32.{when◌then◌else◌}
use Rattle.plain_numbers.specs.Kinds.{failed_in}
use Rattle.plain_numbers.proofs.failed_in.Goals as goal

pub returns-then-kind-eq0 : goal.returns-then-kind-eq0
unfolding failed_in when◌then◌else◌
returns-then-kind-eq0 c = simp (eq-eqb _ _ c.if-kind-eq0.true)

pub returns : goal.returns
unfolding failed_in when◌then◌else◌
returns c = simp (ne_eqb _ _ c.if-kind-eq0.false, ← c.cause_in-cause.ensures)
