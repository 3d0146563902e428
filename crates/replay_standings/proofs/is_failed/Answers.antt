-- `replay_standings::is_failed` meets its contract. Assumes nothing.
use Rattle.replay_standings.specs.Standings.{is_failed}
use Rattle.replay_standings.proofs.is_failed.Goals as goal

pub returns-in-None : goal.returns-in-None
unfolding is_failed
returns-in-None c = simp c.in-None.is

pub returns-in-Some : goal.returns-in-Some
unfolding is_failed
returns-in-Some c = simp (← c.is_cause.ensures, c.in-Some.is)
