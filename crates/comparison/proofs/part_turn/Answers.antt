-- `comparison::part_turn` meets its contract. Assumes nothing.
use Rattle.comparison.specs.Turns.{part_turn}
use Rattle.comparison.proofs.part_turn.Goals as goal

pub returns : goal.returns
unfolding part_turn
returns c = simp (← c.judged.ensures, ← c.whole_at-other.ensures, ← c.whole_at-mine.ensures)
