-- `comparison::whole_turn` meets its contract. Assumes nothing.
use Rattle.comparison.specs.Turns.{whole_turn}
use Rattle.comparison.proofs.whole_turn.Goals as goal

pub returns : goal.returns
unfolding whole_turn
returns c = simp (← c.judged.ensures, ← c.record_at-other.ensures, ← c.record_at-mine.ensures)
