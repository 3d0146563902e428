-- `log_walks::walk` meets its contract. Assumes nothing.
use Rattle.log_walks.proofs.WalkLaws.{Going}
use Rattle.log_walks.proofs.walk.Given as goal

abbrev pub invariant-loop : goal.invariant-loop
invariant-loop l = Going l.bytes l.count l.at l.met l.counter
