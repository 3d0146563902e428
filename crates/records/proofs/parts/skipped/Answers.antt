-- `records::parts::skipped` meets its contract. Assumes nothing.
use Rattle.std.proofs.Common.{arith}
use Rattle.std.proofs.lemmas.Bool.Decides.{nat_tests}
use Rattle.arithmetic.specs.Binary32.{when◌then◌else◌}
use Rattle.records.specs.Parts.{skipped_of}
use Rattle.records.proofs.parts.skipped.Goals as goal

pub returns-then-length-eq0 : goal.returns-then-length-eq0
unfolding skipped_of when◌then◌else◌
returns-then-length-eq0 c = grind (arith, nat_tests)

pub returns : goal.returns
unfolding skipped_of when◌then◌else◌
returns c = grind (arith, nat_tests)
