-- Rounding crosses no power of two from 2 ^ 0 to 2 ^ 276 smallest values, since each is a value of binary32: what lies
-- within one, or apart from it, rounds to such. A fraction a / c is rounded to `rounded_units a c` smallest values; the
-- bounds are those of `lib.Ieee`'s `closest`, at the power of two. Assumes nothing.
use mathlib.Core.Path.{◌≡◌, refl, sym, ◌∙◌, ap}
use mathlib.Core.Logic.{◌⊎◌, inl, inr}
use Prim.Native.Nat.{ℕ, zero, suc, ◌+◌, ◌-◌, ◌*◌, ◌/◌, ◌%◌, ◌^◌, ◌≤◌, ◌<◌, zero-le, compare}
use native.Mathlib.Nat.{le_trans, le_of_eq, zero-mul, mul-le-mul_right, mul-pos, le_refl, mul_comm, mul_assoc, mul_right_comm, mul-le-mul_left, add-le-add, le_of_lt, lt_of_le_of_lt, mul-lt-mul_of_pos_right, le-div_iff_mul-le, le_antisymm, div-lt_iff_lt-mul, mul-one, one-mul, div-mul-le_self}
use native.Mathlib.Omega.{arith}
use mathlib.Core.Bool.{Bool, true, false, cond}
use lib.Dec.{ltb, lit<}
use lib.Pow.{pow_pos, pow-add, pow_mono, pow-lt}
use lib.Ieee.{Float, nan, inf, fin, binary32, down, round, size, odd, units}
use lib.Ieee.Digits.{size-le, size_reaches, back}
use lib.Ieee.Exact.{HasValue, odd_sign, units_val}
use lib.Ieee.Fits.{round_is, nearest-le}
use lib.Ieee.Nearest.{closest, closest_mono, nearest-ge}
use lib.Ieee.Order.{drop, kept}
use Rattle.arithmetic.proofs.Magnitude.Size.{Within, Apart, Over, NonNeg, nonneg-over, le-or-lt, within, apart, endless, plain, boundless}

-- ---- the whole number of smallest values that a / c is rounded to

pub rounded_units : ℕ → ℕ → ℕ
rounded_units a c = kept 24 (a * 2 ^ 149) c * 2 ^ drop 24 (a * 2 ^ 149) c

closest-one : (q : ℕ) → closest q 1 ≡ q
closest-one q =
    let d : q / 1 ≡ q = omega arith in
    let r : q % 1 ≡ 0 = omega arith in
    rw (d, r) refl

closest-le : (n u q : ℕ) → 0 < u → n ≤ q * u → closest n u ≤ q
closest-le n u q U h = rw (closest-one q) at (closest_mono n u q 1 U (lit< tt) (le_trans (le_of_eq (mul-one n)) h))

closest-ge : (n u q : ℕ) → 0 < u → q * u ≤ n → q ≤ closest n u
closest-ge n u q U h = le_trans ((le-div_iff_mul-le U).1 h) (nearest-ge (n / u) (compare (n % u * 2) u))

-- 2 ^ k as 2 ^ (k - d) * 2 ^ d
split-pow : (k d : ℕ) → d ≤ k → 2 ^ (k - d) * 2 ^ d ≡ 2 ^ k
split-pow k d h = sym (pow-add 2 (k - d) d) ∙ ap (λ (x : ℕ). 2 ^ x) (back k d h)

few : (z k : ℕ) → z ≤ suc k → z - 24 ≤ k
few z k h = omega arith

-- a power of two above the fraction is not below what it rounds to
units-le : (a c k : ℕ) → 0 < c → a * 2 ^ 149 ≤ 2 ^ k * c → rounded_units a c ≤ 2 ^ k
unfolding rounded_units
units-le a c k C h =
    let n = a * 2 ^ 149 in
    let d = drop 24 n c in
    let w : n / c < 2 ^ suc k = (div-lt_iff_lt-mul C).1
    (lt_of_le_of_lt h (lt-scale (2 ^ k) (2 ^ suc k) (pow-lt (le_refl (suc k))))) in
    let small : d ≤ k = few (size (n / c)) k (size-le (n / c) (suc k) w) in
    let e = split-pow k d small in
    let fine : n ≤ 2 ^ (k - d) * (c * 2 ^ d) =
    le_trans h (le_of_eq (ap (λ (x : ℕ). x * c) (sym e) ∙ mul_right_comm (2 ^ (k - d)) (2 ^ d) c
    ∙ mul_assoc (2 ^ (k - d)) c (2 ^ d))) in
    le_trans (mul-le-mul_right (2 ^ d) (closest-le n (c * 2 ^ d) (2 ^ (k - d)) (mul-pos C (pow_pos d)) fine)) (le_of_eq e)
  where
    lt-scale : (x y : ℕ) → x < y → x * c < y * c
    lt-scale x y l = mul-lt-mul_of_pos_right l C

-- ---- how far rounding moves a fraction of at most 2 ^ 152 smallest values: by 2 ^ 129 at most

closest-near : (n u : ℕ) → 0 < u → (closest n u * u ≤ n + u) × (n ≤ closest n u * u + u)
closest-near n u U =
    let o = compare (n % u * 2) u in
    let a = mul-le-mul_right u (nearest-le (n / u) o) in
    let b = mul-le-mul_right u (nearest-ge (n / u) o) in
    let d = div-mul-le_self n u in
    let e : n < suc (n / u) * u = (div-lt_iff_lt-mul U).0 (le_refl (suc (n / u))) in
    (omega arith, omega arith)

module _ (a c : ℕ) (C : 0 < c) (h : a * 2 ^ 149 ≤ 2 ^ 152 * c) where
  dropped : drop 24 (a * 2 ^ 149) c ≤ 129
  dropped =
      let w : a * 2 ^ 149 / c < 2 ^ 153 = (div-lt_iff_lt-mul C).1 (lt_of_le_of_lt h (mul-lt-mul_of_pos_right (lit< tt) C)) in
      let z = size-le (a * 2 ^ 149 / c) 153 w in
      few-of (size (a * 2 ^ 149 / c)) z
    where
      few-of : (z : ℕ) → z ≤ 153 → z - 24 ≤ 129
      few-of z l = omega arith

  pub units-near : (rounded_units a c * c ≤ a * 2 ^ 149 + 2 ^ 129 * c) × (a * 2 ^ 149 ≤ rounded_units a c * c + 2 ^ 129 * c)
  unfolding rounded_units
  units-near =
      let d = drop 24 (a * 2 ^ 149) c in
      let u = c * 2 ^ d in
      let q = closest (a * 2 ^ 149) u in
      let n = closest-near (a * 2 ^ 149) u (mul-pos C (pow_pos d)) in
      let e : q * 2 ^ d * c ≡ q * u = mul_right_comm q (2 ^ d) c ∙ mul_assoc q c (2 ^ d) in
      let l : u ≤ 2 ^ 129 * c = le_trans (mul-le-mul_left c (pow_mono dropped)) (le_of_eq (mul_comm c (2 ^ 129))) in (
        le_trans (le_of_eq e) (le_trans n.0 (add-le-add (le_refl (a * 2 ^ 149)) l)),
        le_trans n.1 (add-le-add (le_of_eq (sym e)) l),
      )

-- a power of two below the fraction is not above what it rounds to
module _ (a c k : ℕ) (C : 0 < c) (h : 2 ^ k * c ≤ a * 2 ^ 149) where
  all_of : (d q : ℕ) → 2 ^ k ≤ q * 2 ^ d → q * 2 ^ d * c ≤ a * 2 ^ 149 → 2 ^ k ≤ closest (a * 2 ^ 149) (c * 2 ^ d) * 2 ^ d
  all_of d q p r =
      le_trans p (mul-le-mul_right (2 ^ d) (closest-ge (a * 2 ^ 149) (c * 2 ^ d) q (mul-pos C (pow_pos d))
      (le_trans (le_of_eq (sym (mul_assoc q c (2 ^ d)) ∙ mul_right_comm q c (2 ^ d))) r)))

  reached : (d : ℕ) → drop 24 (a * 2 ^ 149) c ≡ d → 0 < d → 2 ^ d * c ≤ a * 2 ^ 149
  reached d e p = (le-div_iff_mul-le C).0 (size_reaches (a * 2 ^ 149 / c) d (omega arith))

  pick : (d : ℕ) → drop 24 (a * 2 ^ 149) c ≡ d → (d ≤ k) ⊎ (k < d) → 2 ^ k ≤ closest (a * 2 ^ 149) (c * 2 ^ d) * 2 ^ d
  pick d e (inl l) = all_of d (2 ^ (k - d)) (le_of_eq (sym (split-pow k d l))) (rw (split-pow k d l) h)
  pick d e (inr l) = all_of d 1 (le_trans (pow_mono (le_of_lt l)) (le_of_eq (sym (one-mul (2 ^ d)))))
      (rw (one-mul (2 ^ d)) (reached d e (omega arith)))

  units_ge : 2 ^ k ≤ rounded_units a c
  unfolding rounded_units
  units_ge = pick (drop 24 (a * 2 ^ 149) c) refl (le-or-lt (drop 24 (a * 2 ^ 149) c) k)

-- ---- the rounded value

round-units : (s : Bool) (a c : ℕ) → round binary32 s a c ≡ units binary32 s (kept 24 (a * 2 ^ 149) c) (drop 24 (a * 2 ^ 149) c)
round-units s a c = round_is binary32 s a c

-- by any fraction over 2 ^ 149 that a value equals
pub within-value : (x : Float) (s : Bool) (n k : ℕ) → n ≤ 2 ^ k → HasValue x s n (2 ^ 149) → Within k x
within-value nan s n k h v = absurd v
within-value (inf t) s n k h v = absurd v
within-value (fin t m e) s n k h v = within (le_trans (le_of_eq v.1) (mul-le-mul_right (down e) h))

pub apart-value : (x : Float) (s : Bool) (n k : ℕ) → 2 ^ k ≤ n → HasValue x s n (2 ^ 149) → Apart k x
apart-value nan s n k h v = absurd v
apart-value (inf t) s n k h v = absurd v
apart-value (fin t m e) s n k h v = apart (le_trans (mul-le-mul_right (down e) h) (le_of_eq (sym v.1)))

pub round-value : (s : Bool) (a c k : ℕ) → 0 < c → k ≤ 276 → a * 2 ^ 149 ≤ 2 ^ k * c →
    HasValue (round binary32 s a c) s (rounded_units a c) (2 ^ 149)
unfolding rounded_units
round-value s a c k C K h =
    rw (round-units s a c)
    (units_val binary32 s (kept 24 (a * 2 ^ 149) c) (drop 24 (a * 2 ^ 149) c)
    (lt_of_le_of_lt (units-le a c k C h) (lt_of_le_of_lt (pow_mono K) (lit< tt))))

pub round-within : (s : Bool) (a c k : ℕ) → 0 < c → k ≤ 276 → a * 2 ^ 149 ≤ 2 ^ k * c → Within k (round binary32 s a c)
round-within s a c k C K h = within-value _ s (rounded_units a c) k (units-le a c k C h) (round-value s a c k C K h)

pub units-zero : (c : ℕ) → 0 < c → rounded_units 0 c ≡ 0
unfolding rounded_units
units-zero c C =
    let d = drop 24 (0 * 2 ^ 149) c in
    le_antisymm (le_trans (mul-le-mul_right (2 ^ d) (closest-le 0 (c * 2 ^ d) 0 (mul-pos C (pow_pos d)) zero-le))
    (le_of_eq (zero-mul (2 ^ d)))) zero-le

units-apart : (s : Bool) (k q d : ℕ) → 2 ^ k ≤ q * 2 ^ d → Apart k (units binary32 s q d)
unfolding units
units-apart s k q d h = go (ltb (q * 2 ^ d) (2 ^ 277))
  where
    go : (b : Bool) → Apart k (cond b (odd 25 s q d 149) (inf s))
    go true = apart-value (odd 25 s q d 149) s (q * 2 ^ d) k h (odd_sign 25 s q d 149)
    go false = endless

pub round-apart : (s : Bool) (a c k : ℕ) → 0 < c → 2 ^ k * c ≤ a * 2 ^ 149 → Apart k (round binary32 s a c)
unfolding rounded_units
round-apart s a c k C h = rw (round-units s a c) (units-apart s k _ _ (units_ge a c k C h))

odd-nonneg : (l q d j : ℕ) → NonNeg (odd l false q d j)
unfolding odd
odd-nonneg l zero d j = plain
odd-nonneg l (suc q) d j = plain

units-nonneg : (q d : ℕ) → NonNeg (units binary32 false q d)
unfolding units
units-nonneg q d = go (ltb (q * 2 ^ d) (2 ^ 277))
  where
    go : (b : Bool) → NonNeg (cond b (odd 25 false q d 149) (inf false))
    go true = odd-nonneg 25 q d 149
    go false = boundless

pub round-nonneg : (a c : ℕ) → NonNeg (round binary32 false a c)
round-nonneg a c = rw (round-units false a c) (units-nonneg _ _)

pub round-over : (a c k : ℕ) → 0 < c → 2 ^ k * c ≤ a * 2 ^ 149 → Over k (round binary32 false a c)
round-over a c k C h = nonneg-over (round-nonneg a c) (round-apart false a c k C h)
