-- `arithmetic::max` meets its contract. Assumes nothing.
use mathlib.Core.Path.{sym, ◌∙◌}
use Rattle.arithmetic.proofs.Signs.{ne-self}
use Rattle.arithmetic.proofs.EndLaws.{lesser-is-number}
use Rattle.arithmetic.specs.Binary32.{when◌then◌else◌}
use Rattle.arithmetic.specs.Ends.{max_of}
use Rattle.arithmetic.proofs.max.Goals as goal

pub returns-then-old-new : goal.returns-then-old-new
unfolding max_of when◌then◌else◌
returns-then-old-new c = simp (lesser-is-number _ _ c.if-old-new.true, c.if-old-new.true)

pub returns-then-old : goal.returns-then-old
unfolding max_of when◌then◌else◌
returns-then-old c = simp (c.if-old-new.false, sym (ne-self _) ∙ c.if-old.true)

pub returns : goal.returns
unfolding max_of when◌then◌else◌
returns c = simp (c.if-old-new.false, sym (ne-self _) ∙ c.if-old.false)
