-- `fallbacks::appending::copy` meets its contract: each turn leaves fewer bytes to copy. Assumes nothing.
use Rattle.std.proofs.Common.{length, ◌≡◌}
use Rattle.fallbacks.proofs.appending.copy.Given as goal

abbrev pub invariant-loop-left : goal.invariant-loop-left
invariant-loop-left g l = length l.block ≡ length l.initial.block

abbrev pub decreases-loop-left : goal.decreases-loop-left
decreases-loop-left g l = l.left
