-- `index_building::builds::walk_part` meets its contract. Assumes nothing.
use Prim.Native.Nat.{◌-◌, ◌≤◌}
use mathlib.Core.Path.{◌≡◌}
use lib.ListN.{length, drop}
use Rattle.log_walks.specs.Parts.{wholes_of}
use Rattle.index_building.specs.Builds.{progress_by}
use Rattle.index_building.proofs.BuildLaws.{Grown}
use Rattle.index_building.proofs.builds.walk_part.Given as goal

-- the answer from the start is the answer from here
abbrev pub invariant-loop-behind : goal.invariant-loop-behind
invariant-loop-behind l = (l.at ≤ length l.part) × Grown l.initial.extent l.extent l.at × (progress_by 0 l.initial.extent (wholes_of l.part)
    ≡ progress_by l.at l.extent (wholes_of (drop l.at l.part)))

abbrev pub decreases-loop-behind : goal.decreases-loop-behind
decreases-loop-behind l = length l.part - l.at
