-- The code's cuts, in definitions that only its private functions cite. Definitions only. Assumes nothing.
use Rattle.std.specs.Prelude.{ℕ, leb, Ok, Err}
use Rattle.arithmetic.specs.Binary32.{when◌then◌else◌}
use Rattle.log_walks.specs.Walks.{Met}

-- a place, or the end of all bytes where it lies past that
unfoldable pub up_to : ℕ → ℕ → ℕ
up_to all at = when leb at all then at else all

-- the fallbacks of a walk, none where it was stopped
abbrev pub count_in : Met → ℕ
count_in (Ok n) = n
count_in (Err r) = 0
