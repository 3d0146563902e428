-- `comparison::advance` meets its contract. Assumes nothing.
use Prim.Native.Nat.{◌-◌}
use mathlib.Core.Path.{◌≡◌}
use lib.ListN.{length}
use Rattle.comparison.specs.Comparing.{advanced}
use Rattle.comparison.proofs.TurnLaws.{advanced_at}
use Rattle.comparison.proofs.advance.Given as goal

abbrev pub invariant-loop-j : goal.invariant-loop-j
invariant-loop-j l = advanced l.place l.ours l.theirs ≡ advanced_at l.ours l.theirs l.at l.by l.next

abbrev pub decreases-loop-j : goal.decreases-loop-j
decreases-loop-j l = length l.theirs - l.by
