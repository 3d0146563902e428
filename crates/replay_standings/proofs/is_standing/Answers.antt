-- `replay_standings::is_standing` meets its contract. Assumes nothing.
use Rattle.replay_standings.specs.Standings.{is_standing}
use Rattle.replay_standings.proofs.is_standing.Goals as goal

pub returns-in-Solving : goal.returns-in-Solving
unfolding is_standing
returns-in-Solving c = simp (← c.is_told.ensures, c.in-Solving.is)

pub returns-in-Relaxing : goal.returns-in-Relaxing
unfolding is_standing
returns-in-Relaxing c = simp (← c.is_told-in-Relaxing.ensures, c.in-Relaxing.is)

pub returns-in-RigidFailure : goal.returns-in-RigidFailure
unfolding is_standing
returns-in-RigidFailure c = simp (← c.word_at.ensures, ← c.is_told-in-RigidFailure.ensures, c.in-RigidFailure.is)
