-- `replay_edges::are_numbers` meets its contract. The invariant: the answer is that of the numbers before the index.
-- Assumes nothing.
use mathlib.Core.Path.{◌≡◌}
use Rattle.replay_edges.specs.EdgesSet.{are_numbers}
use Rattle.replay_edges.proofs.are_numbers.Given as goal

abbrev pub invariant-loop-i : goal.invariant-loop-i
invariant-loop-i l = l.all ≡ are_numbers l.bytes l.at l.numbers l.i
