-- The square root of an `f32` (01, "Rules of the solve", first rule), over the values of `lib.Ieee`. Definitions only.
-- Assumes nothing. A positive finite `f32` is counted in whole numbers, as its `count` of units of 2 ^ -149, the
-- smallest one: 01's N(y). The `f32` next below or above a positive one has the next bit pattern, and `worth` is the
-- count of a pattern.
use Rattle.std.specs.Prelude.{ℕ, zero, suc, ◌+◌, ◌-◌, ◌*◌, ◌/◌, ◌^◌, ◌≤◌, Bool, true, false, cond, T, leb, Float}
use Rattle.std.specs.Float.{nan, inf, fin, binary32}
use Rattle.std.specs.Float.Ieee.{up, down, of_bits, to_bits}
use Rattle.std.specs.Float.Ieee.Positive.{positive}

-- 01's N(y) for y not below 0: y * 2 ^ 149, which is whole for every finite `f32`. The sign is dropped, since only
-- positive numbers are counted; 0 for a NaN and an infinity
unfoldable pub count : Float → ℕ
count nan = 0
count (inf s) = 0
count (fin s m e) = m * up e * 2 ^ 149 / down e

-- The same, of the number with the bit pattern b, its sign bit clear. A pattern from 2 ^ 23 up has a leading digit, and
-- doubles its unit at each further 2 ^ 23.
unfoldable pub worth : ℕ → ℕ
worth b = let k = b / 8388608 - 1 in (b - k * 8388608) * 2 ^ k

-- the greatest number from r up to r + 2 ^ k - 1 that passes, where those that pass are the lower ones: its binary
-- digits, found one by one
unfoldable pub greatest : (ℕ → Bool) → ℕ → ℕ → ℕ
greatest pass zero r = r
greatest pass (suc k) r = greatest pass k (cond (pass (r + 2 ^ k)) (r + 2 ^ k) r)

-- The pattern's number and the one below it lie around a midpoint. Its square is at most the number whose root is
-- sought: both times 4 * 2 ^ 298, so that both are whole.
unfoldable pub mid_below : ℕ → ℕ → Bool
unfolding worth
mid_below n r = let s = worth (r - 1) + worth r in leb (s * s) (4 * n * 2 ^ 149)

-- the pattern of the root of the number whose count is n: the greatest with the midpoint below it no greater than the root
unfoldable pub root_bits : ℕ → ℕ
unfolding greatest mid_below
root_bits n = greatest (mid_below n) 31 0

-- "the correctly rounded value; −0 gives −0; a negative number or NaN gives NaN; +0 and infinity give themselves"
unfoldable pub sqrt_of : Float → Float
unfolding root_bits count
sqrt_of nan = nan
sqrt_of (inf true) = nan
sqrt_of (inf false) = inf false
sqrt_of (fin s zero e) = fin s zero e
sqrt_of (fin true (suc m) e) = nan
sqrt_of (fin false (suc m) e) = of_bits binary32 (root_bits (count (fin false (suc m) e)))

-- the `f32` next below a positive one, and next above it
unfoldable pub before : Float → Float
before y = of_bits binary32 (to_bits binary32 y - 1)

unfoldable pub after : Float → Float
after y = of_bits binary32 (to_bits binary32 y + 1)

-- 01's rule in whole numbers, with p = before r and q = after r: r is the correctly rounded root of a positive finite x
pub record IsRoot (x r : Float) : Type 0 where
  pub above_zero : T (positive r)
  pub low : (count (before r) + count r) * (count (before r) + count r) ≤ 4 * count x * 2 ^ 149
  pub high : 4 * count x * 2 ^ 149 ≤ (count r + count (after r)) * (count r + count (after r))
