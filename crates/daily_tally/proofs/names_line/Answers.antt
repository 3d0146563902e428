-- `daily_tally::names_line` meets its contract. Assumes nothing.
use Rattle.std.proofs.Common.{eq-eqb, ne_eqb}
use Rattle.arithmetic.specs.Binary32.{when◌then◌else◌}
use Rattle.daily_tally.specs.Figures.{one}
use Rattle.daily_tally.specs.Adding.{names_line}
use Rattle.daily_tally.proofs.names_line.Goals as goal

pub returns-then-failed-eq-NO_LINE : goal.returns-then-failed-eq-NO_LINE
unfolding names_line one when◌then◌else◌
returns-then-failed-eq-NO_LINE c = simp (eq-eqb _ _ c.if-failed-eq-NO_LINE.true)

pub returns : goal.returns
unfolding names_line one when◌then◌else◌
returns c = simp (ne_eqb _ _ c.if-failed-eq-NO_LINE.false)
