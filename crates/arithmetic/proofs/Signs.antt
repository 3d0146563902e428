-- What a comparison with itself or with 0 tells of a float: which case of `Float` it is. Assumes nothing.
use mathlib.Core.Path.{◌≡◌, refl, ap}
use mathlib.Core.Bool.{Bool, true, false, true≢false, false≢true, not}
use Prim.Native.Nat.{ℕ, zero, suc, ◌+◌, ◌*◌, ◌≤◌, ◌<◌}
use native.Mathlib.Nat.{mul-pos, zero-lt-suc, zero-mul, suc-ne-zero}
use native.Mathlib.Omega.{arith}
use lib.IntN.{ℤ, pos}
use lib.Dec.{T}
use lib.Ieee.{Float, nan, inf, fin, binary32, up, down, fits, ne, eq, lt, neg, is_nan, of_bits}
use Rattle.arithmetic.specs.Binary32.{0ᶠ}
use lib.Ieee.Fits.{up_pos}
use lib.Ieee.Back.{whole_unique}
use Rattle.arithmetic.specs.Ends.{abs_of}
use borrow.Author.Tests.{eq-eqb, ne_eqb, ltb-true, ltb-false}

pub ne-self : (x : Float) → ne x x ≡ is_nan x
unfolding ne is_nan
ne-self nan = refl
ne-self (inf true) = refl
ne-self (inf false) = refl
ne-self (fin true m e) = simp (eq-eqb (m * up e * down e) (m * up e * down e) refl)
ne-self (fin false m e) = simp (eq-eqb (m * up e * down e) (m * up e * down e) refl)

size-pos : (m : ℕ) (e : ℤ) → 0 < suc m * up e * 1
size-pos m e = mul-pos (mul-pos (zero-lt-suc m) (up_pos e)) (zero-lt-suc 0)

nothing : (e : ℤ) → 0 * down e ≡ 0
nothing e = zero-mul (down e)

-- x is a zero, and keeps its sign
abbrev pub Zero : Float → Type 0
Zero nan = ⊥
Zero (inf s) = ⊥
Zero (fin s m e) = m ≡ 0

-- x is a number or an infinity below 0
abbrev pub Negative : Float → Type 0
Negative nan = ⊥
Negative (inf s) = s ≡ true
Negative (fin s m e) = (s ≡ true) × (0 < m)

-- x is a number or an infinity above 0
abbrev pub Positive : Float → Type 0
Positive nan = ⊥
Positive (inf s) = s ≡ false
Positive (fin s m e) = (s ≡ false) × (0 < m)

pub is_zero : (x : Float) → eq x 0ᶠ ≡ true → Zero x
unfolding eq of_bits
is_zero nan h = absurd (false≢true h)
is_zero (inf s) h = absurd (false≢true h)
is_zero (fin s zero e) h = refl
is_zero (fin s (suc m) e) h = absurd (false≢true (rw (ne_eqb (suc m * up e * 1) (0 * down e) (λ z. apart m e z)) at h))
  where
    apart : (m : ℕ) (e : ℤ) → suc m * up e * 1 ≡ 0 * down e → ⊥
    apart m e z = omega (arith, size-pos m e, nothing e)

pub is_negative : (x : Float) → lt x 0ᶠ ≡ true → Negative x
unfolding lt of_bits
is_negative nan h = absurd (false≢true h)
is_negative (inf s) h = h
is_negative (fin false m e) h = absurd (no_less (m * up e * 1) (ltb-true (m * up e * 1) (0 * down e) h))
  where
    no_less : (a : ℕ) → a < 0 * down e → ⊥
    no_less a k = omega (arith, nothing e)
is_negative (fin true zero e) h = absurd (none (ltb-true 0 (0 * up e * 1 + 0 * down e) h))
  where
    none : 0 < 0 * up e * 1 + 0 * down e → ⊥
    none k = omega (arith, nothing e, zero-mul (up e))
is_negative (fin true (suc m) e) h = (refl, zero-lt-suc m)

pub is_positive : (x : Float) → ne x x ≡ false → eq x 0ᶠ ≡ false → lt x 0ᶠ ≡ false → Positive x
unfolding ne eq lt of_bits
is_positive nan n z h = absurd (true≢false n)
is_positive (inf s) n z h = h
is_positive (fin true zero e) n z h = absurd (true≢false (simp zero-mul at z))
is_positive (fin false zero e) n z h = absurd (true≢false (simp zero-mul at z))
is_positive (fin false (suc m) e) n z h = (refl, zero-lt-suc m)
is_positive (fin true (suc m) e) n z h =
    absurd (some (suc m * up e * 1) (size-pos m e) (ltb-false 0 (suc m * up e * 1 + 0 * down e) h))
  where
    some : (a : ℕ) → 0 < a → a + 0 * down e ≤ 0 → ⊥
    some a p k = omega arith

-- a zero that fits is written in one way
zero_exp : (s : Bool) (e : ℤ) → T (fits binary32 (fin s zero e)) → fin false zero (pos 0) ≡ fin false zero e
unfolding fits
zero_exp s e h = whole_unique binary32 (fin false 0 (pos 0)) (fin false 0 e) false 0 tt h (refl, refl) (refl, simp zero-mul)

pub abs-zero : (x : Float) → T (fits binary32 x) → Zero x → 0ᶠ ≡ abs_of x
unfolding abs_of of_bits
abs-zero nan f z = absurd z
abs-zero (inf s) f z = absurd z
abs-zero (fin s zero e) f z = zero_exp s e f
abs-zero (fin s (suc m) e) f z = absurd (suc-ne-zero m z)

pub abs-negative : (x : Float) → Negative x → neg x ≡ abs_of x
unfolding abs_of neg
abs-negative nan h = absurd h
abs-negative (inf s) h = ap (λ (t : Bool). inf (not t)) h
abs-negative (fin s m e) h = ap (λ (t : Bool). fin (not t) m e) h.0

pub abs-rest : (x : Float) → eq x 0ᶠ ≡ false → lt x 0ᶠ ≡ false → x ≡ abs_of x
unfolding abs_of is_nan
abs-rest nan z h = refl
abs-rest (inf s) z h = ap inf (is_positive (inf s) (ne-self (inf s)) z h)
abs-rest (fin s m e) z h = ap (λ (t : Bool). fin t m e) (is_positive (fin s m e) (ne-self (fin s m e)) z h).0
