-- `tally::turns` meets its contract. Assumes nothing.
use Rattle.std.proofs.Common.{length, ◌≡◌}
use Rattle.tally.proofs.turns.Given as goal

abbrev pub invariant-loop : goal.invariant-loop
invariant-loop g l = length l.input ≡ length l.initial.input
