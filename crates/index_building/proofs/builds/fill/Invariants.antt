-- `index_building::builds::fill` meets its contract. Assumes nothing.
use Prim.Native.Nat.{◌-◌}
use lib.ListN.{length}
use Rattle.index_building.proofs.BuildLaws.{Filling}
use Rattle.index_building.proofs.builds.fill.Given as goal

abbrev pub invariant-loop-behind : goal.invariant-loop-behind
invariant-loop-behind l = Filling l.part l.initial.extent l.initial.buffer l.start l.buffer l.at l.to l.extent

abbrev pub decreases-loop-behind : goal.decreases-loop-behind
decreases-loop-behind l = length l.part - l.at
