-- `sqrt_of` case by case, as the code of `sqrt` tells the cases apart. Assumes nothing.
use mathlib.Core.Path.{◌≡◌, refl, subst}
use mathlib.Core.Bool.{true, false, not, false≢true}
use Prim.Native.Nat.{ℕ, zero, suc, ◌*◌, ◌<◌, ◌≤◌, ◌^◌}
use native.Mathlib.Nat.{lt_irrefl, lt_of_not-le, lt_of_lt_of_le, suc-ne-zero}
use native.Mathlib.Omega.{arith}
use lib.Dec.{T, lt→ltb}
use lib.Ieee.{Float, nan, inf, fin, binary32, fits, is_nan, nan_bits, of_bits, to_bits}
use lib.Ieee.Bits.{nan_bits_is}
use lib.Ieee.Exact.{HasValue}
use lib.Ieee.Positive.{positive}
use Rattle.arithmetic.specs.Root.{count, worth, root_bits, sqrt_of}
use Rattle.arithmetic.proofs.Signs.{Zero, Negative, Positive}
use Rattle.arithmetic.proofs.Patterns.{positive-bits, bits-value}
use Rattle.arithmetic.proofs.RootBits.{mid, root_bits-at, too-high}

pub of_nan : (x : Float) → is_nan x ≡ true → x ≡ sqrt_of x
unfolding sqrt_of is_nan
of_nan nan h = refl
of_nan (inf s) h = absurd (false≢true h)
of_nan (fin s m e) h = absurd (false≢true h)

pub of_zero : (x : Float) → Zero x → x ≡ sqrt_of x
unfolding sqrt_of
of_zero nan h = absurd h
of_zero (inf s) h = absurd h
of_zero (fin s zero e) h = refl
of_zero (fin s (suc m) e) h = absurd (suc-ne-zero m h)

pub of_negative : (x : Float) → Negative x → nan ≡ sqrt_of x
unfolding sqrt_of
of_negative nan h = absurd h
of_negative (inf s) h = rw h
of_negative (fin s zero e) h = absurd (lt_irrefl 0 h.1)
of_negative (fin s (suc m) e) h = rw h.0

pub of-infinity : (x : Float) → T (fits binary32 x) → Positive x → to_bits binary32 x ≡ 2139095040 → x ≡ sqrt_of x
unfolding sqrt_of
of-infinity nan f h e = absurd h
of-infinity (inf s) f h e = rw h
of-infinity (fin s m g) f h e =
    let p : T (positive (fin s m g)) = rw h.0 (lt→ltb 0 m h.1) in
    absurd (lt_irrefl 2139095040 (subst (λ (b : ℕ). b < 2139095040) e (positive-bits (fin s m g) f p).1))

pub is_finite : (x : Float) → Positive x → (to_bits binary32 x ≡ 2139095040 → ⊥) → T (positive x)
unfolding to_bits
is_finite nan h n = absurd h
is_finite (inf s) h n = absurd (n (rw h))
is_finite (fin s m e) h n = rw h.0 (lt→ltb 0 m h.1)

pub of_positive : (x : Float) → T (positive x) → sqrt_of x ≡ of_bits binary32 (root_bits (count x))
unfolding sqrt_of
of_positive nan p = absurd p
of_positive (inf s) p = absurd p
of_positive (fin true m e) p = absurd p
of_positive (fin false zero e) p = absurd p
of_positive (fin false (suc m) e) p = refl

-- the root's pattern is below the infinity's, and so is the next
pub root-range : (n r : ℕ) → n < 2 ^ 277 → mid r * mid r ≤ 4 * n * 2 ^ 149 → r < 2139095039
root-range n r h low = lt_of_not-le (λ (g : 2139095039 ≤ r). lt_irrefl _ (lt_of_lt_of_le (too-high n r h g) low))

pub root-finite : (n : ℕ) → n < 2 ^ 277 → root_bits n < 2139095040
root-finite n h = omega (arith, root-range n (root_bits n) h (root_bits-at n h).low)

pub not-nan : (x : Float) (n : ℕ) → HasValue x false n (2 ^ 149) → T (not (is_nan x))
unfolding is_nan
not-nan nan n h = absurd h
not-nan (inf s) n h = absurd h
not-nan (fin s m e) n h = tt

pub root-not-nan : (n : ℕ) → n < 2 ^ 277 → T (not (nan_bits binary32 (root_bits n)))
root-not-nan n h = rw (nan_bits_is binary32 (root_bits n)) (not-nan (of_bits binary32 (root_bits n)) (worth (root_bits n))
    (bits-value (root_bits n) (root-finite n h)))
