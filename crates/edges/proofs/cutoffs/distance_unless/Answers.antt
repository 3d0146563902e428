-- `edges::cutoffs::distance_unless` meets its contract. Assumes nothing.
use lib.Ieee.{of_bits}
use Rattle.arithmetic.specs.Binary32.{when◌then◌else◌}
use Rattle.edges.specs.Cutoffs.{distance_unless}
use Rattle.edges.proofs.cutoffs.distance_unless.Goals as goal

pub returns-then-missed : goal.returns-then-missed
unfolding distance_unless when◌then◌else◌ of_bits
returns-then-missed c = simp c.if-missed.true
