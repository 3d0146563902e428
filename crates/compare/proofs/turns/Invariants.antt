-- `compare::turns` meets its contract: the buffers are ready for each turn. Assumes nothing.
use Rattle.std.proofs.Common.{length}
use Rattle.compare.specs.Turns.{Ready}
use Rattle.compare.proofs.turns.Given as goal

abbrev pub invariant-loop : goal.invariant-loop
invariant-loop g l = Ready (length l.input) (length l.ours) (length l.theirs) l.reading
