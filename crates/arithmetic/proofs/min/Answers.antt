-- `arithmetic::min` meets its contract. Assumes nothing.
use mathlib.Core.Path.{sym, ◌∙◌}
use Rattle.arithmetic.proofs.Signs.{ne-self}
use Rattle.arithmetic.proofs.EndLaws.{greater-is-number}
use Rattle.arithmetic.specs.Binary32.{when◌then◌else◌}
use Rattle.arithmetic.specs.Ends.{min_of}
use Rattle.arithmetic.proofs.min.Goals as goal

pub returns-then-new-old : goal.returns-then-new-old
unfolding min_of when◌then◌else◌
returns-then-new-old c = simp (greater-is-number _ _ c.if-new-old.true, c.if-new-old.true)

pub returns-then-old : goal.returns-then-old
unfolding min_of when◌then◌else◌
returns-then-old c = simp (c.if-new-old.false, sym (ne-self _) ∙ c.if-old.true)

pub returns : goal.returns
unfolding min_of when◌then◌else◌
returns c = simp (c.if-new-old.false, sym (ne-self _) ∙ c.if-old.false)
