-- `answer_logs::whole_at` meets its contract. Assumes nothing.
use mathlib.Core.Path.{sym, ◌∙◌}
use Rattle.arithmetic.specs.Binary32.{when◌then◌else◌}
use Rattle.answer_logs.specs.Logs.{logged_at}
use Rattle.answer_logs.specs.Parts.{found_whole, whole_at}
use Rattle.answer_logs.proofs.whole_at.Goals as goal

pub returns-then-waits : goal.returns-then-waits
unfolding whole_at found_whole when◌then◌else◌
returns-then-waits c = simp (sym c.waits.ensures ∙ c.if-waits.true)

pub returns : goal.returns
unfolding whole_at found_whole logged_at when◌then◌else◌
returns c = simp (sym c.waits.ensures ∙ c.if-waits.false, c.record_at.ensures)
