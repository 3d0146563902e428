-- `replay_failures::walked` meets its contract: it ends, since each turn leaves fewer indices. Assumes nothing.
use mathlib.Core.Path.{◌≡◌}
use lib.ListN.{length}
use Rattle.replay_failures.proofs.walked.Given as goal

abbrev pub invariant-loop-walk : goal.invariant-loop-walk
invariant-loop-walk l = (length l.head ≡ 24) × (length l.rest ≡ 2633)

abbrev pub decreases-loop-walk : goal.decreases-loop-walk
decreases-loop-walk l = l.walk.left
