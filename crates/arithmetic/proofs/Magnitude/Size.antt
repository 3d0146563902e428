-- The size of a binary32 value against powers of two, counted in smallest values: 2 ^ k of them are 2 ^ (k - 149). As k
-- ranges over the natural numbers, no exponent is negative. The predicates are indexed data, so a proof that matches on
-- one has the value as `fin s m e`, and the NaN is gone. A law is named from what it asks to what it gives. Assumes
-- nothing.
use mathlib.Core.Path.{◌≡◌, refl, ap}
use mathlib.Core.Logic.{◌⊎◌, inl, inr}
use Prim.Native.Nat.{ℕ, ◌*◌, ◌^◌, ◌≤◌, ◌<◌, zero-le}
use native.Mathlib.Nat.{le_trans, le_of_eq, lt_of_lt_of_le, lt_irrefl, zero-mul, mul-le-mul_right, le_of_lt, mul-lt-mul_of_pos_right}
use mathlib.Core.Bool.{Bool, true, false, false≢true, not}
use lib.Dec.{T, leb, leb→le, nleb→lt}
use lib.IntN.{ℤ}
use lib.Pow.{pow_mono, pow-lt}
use lib.Ieee.{Float, nan, inf, fin, up, down}
use lib.Ieee.Fits.{down_pos}
use Rattle.arithmetic.specs.Binary32.{finite}

-- |x| is at most 2 ^ k smallest values; x is finite, of either sign
pub data Within (k : ℕ) : Float → Type 0 where
  within : {s : Bool} {m : ℕ} {e : ℤ} → m * up e * 2 ^ 149 ≤ 2 ^ k * down e → Within k (fin s m e)

-- |x| is at least 2 ^ k smallest values; x is of either sign, and may be an infinity
pub data Apart (k : ℕ) : Float → Type 0 where
  apart : {s : Bool} {m : ℕ} {e : ℤ} → 2 ^ k * down e ≤ m * up e * 2 ^ 149 → Apart k (fin s m e)
  endless : {s : Bool} → Apart k (inf s)

-- x is at least 2 ^ k smallest values: it is `Apart k` and above zero
pub data Over (k : ℕ) : Float → Type 0 where
  over : {m : ℕ} {e : ℤ} → 2 ^ k * down e ≤ m * up e * 2 ^ 149 → Over k (fin false m e)
  infinite : Over k (inf false)

-- x has no sign bit: a number from +0 on, or the infinity above; neither -0 nor a NaN
pub data NonNeg : Float → Type 0 where
  plain : {m : ℕ} {e : ℤ} → NonNeg (fin false m e)
  boundless : NonNeg (inf false)

-- ---- from one to another

pub over-apart : {k : ℕ} {x : Float} → Over k x → Apart k x
over-apart (over h) = apart h
over-apart infinite = endless

pub nonneg-over : {k : ℕ} {x : Float} → NonNeg x → Apart k x → Over k x
nonneg-over plain (apart h) = over h
nonneg-over boundless endless = infinite

pub wider : {j k : ℕ} {x : Float} → j ≤ k → Within j x → Within k x
wider l (within {e = e} h) = within (le_trans h (mul-le-mul_right (down e) (pow_mono l)))

pub lower : {j k : ℕ} {x : Float} → k ≤ j → Over j x → Over k x
lower l (over {e = e} h) = over (le_trans (mul-le-mul_right (down e) (pow_mono l)) h)
lower l infinite = infinite

pub zero-within : (s : Bool) (e : ℤ) (k : ℕ) → Within k (fin s 0 e)
zero-within s e k = within (le_trans (le_of_eq (ap (λ (z : ℕ). z * 2 ^ 149) (zero-mul (up e)))) zero-le)

pub within-finite : {k : ℕ} {x : Float} → Within k x → finite x ≡ true
unfolding finite
within-finite (within h) = refl

-- ---- each finite value is within 2 ^ k or apart from it, and not far within and apart

pub le-or-lt : (a b : ℕ) → (a ≤ b) ⊎ (b < a)
le-or-lt a b = go (leb a b) (leb→le a b) (nleb→lt a b)
  where
    go : (t : Bool) → (T t → a ≤ b) → (T (not t) → b < a) → (a ≤ b) ⊎ (b < a)
    go true p q = inl (p tt)
    go false p q = inr (q tt)

pub within-or-apart : (k : ℕ) (x : Float) → finite x ≡ true → Within k x ⊎ Apart k x
unfolding finite
within-or-apart k nan f = absurd (false≢true f)
within-or-apart k (inf s) f = inr endless
within-or-apart k (fin s m e) f = go (le-or-lt (m * up e * 2 ^ 149) (2 ^ k * down e))
  where
    go : (m * up e * 2 ^ 149 ≤ 2 ^ k * down e) ⊎ (2 ^ k * down e < m * up e * 2 ^ 149) → Within k (fin s m e)
        ⊎ Apart k (fin s m e)
    go (inl h) = inl (within h)
    go (inr h) = inr (apart (le_of_lt h))

pub apart-not-within : {j k : ℕ} {x : Float} → Apart j x → Within k x → k < j → ⊥
apart-not-within {j} {k} (apart {e = e} h) (within g) l =
    lt_irrefl _ (lt_of_lt_of_le (mul-lt-mul_of_pos_right (pow-lt l) (down_pos e)) (le_trans h g))
apart-not-within {j = j} {k = k} (endless {s = s}) x5 l = elim x5 [ ]
