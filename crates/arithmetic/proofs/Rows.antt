-- From the test of a row to the rule of its guesses: what is near the root at both ends of a row is near it between them, since
-- a square bends upwards. Assumes nothing.
use mathlib.Core.Path.{◌≡◌}
use Prim.Native.Nat.{ℕ, zero, suc, ◌+◌, ◌-◌, ◌*◌, ◌/◌, ◌≤◌, ◌<◌}
use native.Mathlib.Nat.{le_trans, mul-le-mul, mul-le-mul_left, le_of_mul-le-mul_left, le_of_mul-le-mul_right, div-mul-le_self, lt-div-mul-add}
use native.Mathlib.Omega.{arith}
use Rattle.arithmetic.specs.Guesses.{RootWithin, farthest, row_width, middle, RowTest}
use Rattle.arithmetic.proofs.Steps.{mean}

-- ---- over a row of f + m numbers from o on a guess rises by s, and by r, rounded down, over the first f
module _ (f m s r o : ℕ) (some : 0 < f + m) where
  -- a square that is not above a straight line at both ends is not above it between them
  under-root : (a : ℕ) → r * (f + m) ≤ s * f → a * a ≤ o → (a + s) * (a + s) ≤ o + (f + m) → (a + r) * (a + r) ≤ o + f
  under-root a l start end =
      let most : f ≤ f + m = omega arith in
      let less : r ≤ s = le_of_mul-le-mul_right {k = f + m} (omega (arith, mul-le-mul_left s most)) some in
      le_of_mul-le-mul_left {k = f + m}
      (omega (arith, mul-le-mul_left m start, mul-le-mul_left f end, mul-le-mul_left a l, mul-le-mul less l)) some

  -- a square lies nowhere below its tangent at t
  over_root : (b t : ℕ) → s * f ≤ (r + 1) * (f + m) → o + t * t ≤ 2 * (t * b) → o + (f + m) + t * t ≤ 2 * (t * (b + s))
      → o + f ≤ (b + r + 1) * (b + r + 1)
  over_root b t l start end =
      le_of_mul-le-mul_left {k = f + m}
      (omega (
        arith,
        mul-le-mul_left m start,
        mul-le-mul_left f end,
        mul-le-mul_left t l,
        mul-le-mul_left (f + m) (mean t (b + r + 1)),
      ))
      some

module _ (i start rise f : ℕ) (t : RowTest i start rise) (inside : f < row_width) where
  abbrev r : ℕ
  r = rise * f / row_width

  whole : f + (row_width - f) ≡ row_width
  whole = omega arith

  low : (start + r - farthest) * (start + r - farthest) ≤ i * row_width + f
  low =
      let s : start + r - farthest ≤ start - farthest + r = omega arith in
      let l : r * (f + (row_width - f)) ≤ rise * f = rw whole (div-mul-le_self (rise * f) row_width) in
      le_trans (mul-le-mul s s)
      (under-root f (row_width - f) rise r (i * row_width) (omega arith) (start - farthest) l t.low-start
      (rw whole (omega (arith, t.low_end))))

  high : i * row_width + f ≤ (start + r + farthest) * (start + r + farthest)
  high =
      let e : start + farthest - 1 + r + 1 ≡ start + r + farthest = omega arith in
      let l : rise * f ≤ (r + 1) * (f + (row_width - f)) =
      rw whole (omega (arith, lt-div-mul-add {a = rise * f} {b = row_width} (omega arith))) in
      rw (← e)
      (over_root f (row_width - f) rise r (i * row_width) (omega arith) (start + farthest - 1) (middle start rise) l t.high-start
      (rw whole (omega (arith, t.high_end))))

  pub row_near : RootWithin farthest (i * row_width + f) (start + r)
  row_near = record { low = low; high = high }

-- ---- a number from 8 on that is none of the n next
abbrev pub NoneOf : ℕ → ℕ → Type 0
NoneOf zero i = Unit {0}
NoneOf (suc n) i = NoneOf n i × (i ≡ 8 + n → ⊥)

pub past : (n i : ℕ) → NoneOf n i → 8 ≤ i → 8 + n ≤ i
past zero i h l = l
past (suc n) i h l = omega (arith, past n i h.0 l, h.1)
