-- `log_walks::fallback` meets its contract. Assumes nothing.
use Rattle.arithmetic.specs.Binary32.{when◌then◌else◌}
use borrow.Author.Tests.{le-leb, lt-leb}
use native.Mathlib.Omega.{arith}
use Rattle.log_walks.specs.Figures.{is_fallback}
use Rattle.log_walks.proofs.fallback.Goals as goal

pub returns-in-3-to-5 : goal.returns-in-3-to-5
unfolding is_fallback when◌then◌else◌
returns-in-3-to-5 c = let k = c.args.code in rw (le-leb 3 k (omega arith), le-leb k 5 (omega arith))

pub returns-in_default : goal.returns-in_default
unfolding is_fallback when◌then◌else◌
returns-in_default c = let k = c.args.code in rw (lt-leb 3 k (omega arith))

pub returns-in_default-2 : goal.returns-in_default-2
unfolding is_fallback when◌then◌else◌
returns-in_default-2 c = let k = c.args.code in rw (le-leb 3 k (omega arith), lt-leb k 5 (omega arith))
