-- `min` and `max` in 01's words: equal zeros keep the old end; with one NaN the other operand is taken. Assumes nothing.
use mathlib.Core.Path.{◌≡◌, refl}
use mathlib.Core.Bool.{Bool, true, false, false≢true}
use native.Mathlib.Nat.{zero-mul}
use lib.IntN.{ℤ}
use lib.Ieee.{Float, nan, inf, fin, lt, is_nan}
use Rattle.arithmetic.specs.Binary32.{◌<ᶠ◌, when◌then◌else◌}
use Rattle.arithmetic.specs.Ends.{min_of, max_of}

-- what compares less is no NaN, and neither is what it is less than
pub lesser-is-number : (x y : Float) → (x <ᶠ y) ≡ true → is_nan x ≡ false
unfolding lt is_nan
lesser-is-number nan y h = absurd (false≢true h)
lesser-is-number (inf s) y h = refl
lesser-is-number (fin s m e) y h = refl

pub greater-is-number : (x y : Float) → (x <ᶠ y) ≡ true → is_nan y ≡ false
unfolding lt is_nan
greater-is-number nan nan h = absurd (false≢true h)
greater-is-number (inf s) nan h = absurd (false≢true h)
greater-is-number (fin s m e) nan h = absurd (false≢true h)
greater-is-number x (inf t) h = refl
greater-is-number x (fin t n d) h = refl

pub min-old-nan : (x : Float) → min_of nan x ≡ x
unfolding min_of when◌then◌else◌ is_nan
min-old-nan x = refl

pub max-old-nan : (x : Float) → max_of nan x ≡ x
unfolding max_of when◌then◌else◌ is_nan
max-old-nan x = refl

pub min-new-nan : (x : Float) → min_of x nan ≡ x
unfolding min_of when◌then◌else◌ is_nan lt
min-new-nan nan = refl
min-new-nan (inf s) = refl
min-new-nan (fin s m e) = refl

pub max-new-nan : (x : Float) → max_of x nan ≡ x
unfolding max_of when◌then◌else◌ is_nan lt
max-new-nan nan = refl
max-new-nan (inf s) = refl
max-new-nan (fin s m e) = refl

zeros-level : (s t : Bool) (e d : ℤ) → (fin s 0 e <ᶠ fin t 0 d) ≡ false
unfolding lt
zeros-level true true e d = simp zero-mul
zeros-level true false e d = simp zero-mul
zeros-level false true e d = refl
zeros-level false false e d = simp zero-mul

pub min-zeros : (s t : Bool) (e d : ℤ) → min_of (fin s 0 e) (fin t 0 d) ≡ fin s 0 e
unfolding min_of when◌then◌else◌ is_nan
min-zeros s t e d = rw (zeros-level t s d e)

pub max-zeros : (s t : Bool) (e d : ℤ) → max_of (fin s 0 e) (fin t 0 d) ≡ fin s 0 e
unfolding max_of when◌then◌else◌ is_nan
max-zeros s t e d = rw (zeros-level s t e d)
