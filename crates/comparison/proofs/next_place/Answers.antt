-- `comparison::next_place` meets its contract. Assumes nothing.
use Rattle.std.proofs.Common.{arith}
use Rattle.std.proofs.lemmas.Bool.Decides.{nat_tests}
use Rattle.arithmetic.specs.Binary32.{when◌then◌else◌}
use Rattle.comparison.specs.Comparing.{next_place}
use Rattle.comparison.proofs.next_place.Goals as goal

pub returns : goal.returns
unfolding next_place when◌then◌else◌
returns c = grind (arith, nat_tests)
