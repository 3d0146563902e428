-- `replay_standings::is_cause` meets its contract. Assumes nothing.
use Rattle.replay_standings.specs.Standings.{is_cause}
use Rattle.replay_standings.proofs.is_cause.Goals as goal

pub returns-in-Circle : goal.returns-in-Circle
unfolding is_cause
returns-in-Circle c = simp c.in-Circle.is

pub returns-in-Parallel : goal.returns-in-Parallel
unfolding is_cause
returns-in-Parallel c = simp c.in-Parallel.is

pub returns-in-Crossing : goal.returns-in-Crossing
unfolding is_cause
returns-in-Crossing c = simp c.in-Crossing.is
