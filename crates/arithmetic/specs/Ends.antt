-- What `abs`, `min`, `max` and `clamp` return (01, "Rules of the solve"). Definitions only. Assumes nothing.
use Rattle.std.specs.Prelude.{false, Float}
use Rattle.std.specs.Float.{nan, inf, fin}
use Rattle.std.specs.Float.Ieee.{is_nan}
use Rattle.arithmetic.specs.Binary32.{◌<ᶠ◌, when◌then◌else◌}

-- the same number without its sign, a zero's and an infinity's too
unfoldable pub abs_of : Float → Float
abs_of nan = nan
abs_of (inf s) = inf false
abs_of (fin s m e) = fin false m e

-- the lesser of an old end and a new one: "with one NaN the other operand is taken", "equal zeros keep the old end"
unfoldable pub min_of : Float → Float → Float
min_of old new = when is_nan old then new else when new <ᶠ old then new else old

-- the greater, likewise
unfoldable pub max_of : Float → Float → Float
max_of old new = when is_nan old then new else when old <ᶠ new then new else old

-- "left end if less than it, else right end if greater"
unfoldable pub clamp_of : Float → Float → Float → Float
clamp_of x left right = when x <ᶠ left then left else when right <ᶠ x then right else x
