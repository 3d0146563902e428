-- Binary32 numbers by their bit patterns. Definitions only. Assumes nothing.
use Rattle.std.specs.Prelude.{ℕ, Bool, cond, eqb, Float}
use Rattle.std.specs.Float.{binary32}
use Rattle.std.specs.Float.Ieee.{is_nan, nan_bits, to_bits}

-- Whether the number has the pattern: a NaN has every NaN pattern, another number the one that is its own.
unfoldable pub has_pattern : Float → ℕ → Bool
has_pattern x p = cond (is_nan x) (nan_bits binary32 p) (eqb (to_bits binary32 x) p)
