-- `conversion::flow::last_stage` meets its contract. Assumes nothing.
use Rattle.std.proofs.Common.{eq-eqb, ne_eqb}
use Rattle.arithmetic.specs.Binary32.{when◌then◌else◌}
use Rattle.conversion.specs.Streams.{last_stage}
use Rattle.conversion.proofs.flow.last_stage.Goals as goal

pub returns-then-left-eq0 : goal.returns-then-left-eq0
unfolding last_stage when◌then◌else◌
returns-then-left-eq0 c = simp (eq-eqb _ _ c.if-left-eq0.true)

pub returns : goal.returns
unfolding last_stage when◌then◌else◌
returns c = simp (ne_eqb _ _ c.if-left-eq0.false)
