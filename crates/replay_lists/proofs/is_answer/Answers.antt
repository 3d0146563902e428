-- `replay_lists::is_answer` meets its contract. Assumes nothing.
use Rattle.replay_lists.specs.ListsSet.{is_answer}
use Rattle.replay_lists.proofs.is_answer.Goals as goal

pub returns-in-Ok : goal.returns-in-Ok
unfolding is_answer
returns-in-Ok c = simp (← c.is_standing.ensures, c.in-Ok.is)

pub returns-in-Err : goal.returns-in-Err
unfolding is_answer
returns-in-Err c = simp (c.in-Err.is, ← c.number.ensures, ← c.is_told.ensures)
