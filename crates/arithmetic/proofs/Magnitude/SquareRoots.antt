-- The size of a square root: half the exponent, either way, and its sign. A power of two has a pattern, and `AtRoot`
-- says which patterns the root lies between, so the root's own pattern is not beyond that of a power of two which the
-- root does not pass. Assumes nothing.
use mathlib.Core.Path.{◌≡◌, sym, ◌∙◌, ap}
use mathlib.Core.Logic.{◌⊎◌, inl, inr}
use Prim.Native.Nat.{ℕ, zero, suc, ◌+◌, ◌-◌, ◌*◌, ◌/◌, ◌^◌, ◌≤◌, ◌<◌, zero-le}
use native.Mathlib.Nat.{le_trans, le_of_eq, lt_of_lt_of_le, lt_irrefl, mul-le-mul_right, mul-pos, le_refl, mul_comm, mul_assoc, mul-le-mul_left, le-add_right, le_of_lt, le_of_suc-le-suc, lt_of_le_of_lt, lt_of_not-le, mul-lt-mul_of_pos_right, div-le_of_le-mul, le-div_iff_mul-le, add-sub_cancel, zero-lt-suc}
use native.Mathlib.Omega.{arith}
use mathlib.Core.Bool.{true, false, true≢false}
use lib.Dec.{lit≤, lit<}
use lib.IntN.{ℤ}
use lib.Pow.{pow-add, pow_mono}
use lib.Ieee.{Float, of_bits, nan, inf, fin, binary32, up, down, lt}
use lib.Ieee.Exact.{HasValue}
use lib.Ieee.Fits.{down_pos, up_pos}
use borrow.Author.Tests.{lt-ltb}
use Rattle.arithmetic.specs.Binary32.{◌<ᶠ◌, 0ᶠ}
use Rattle.arithmetic.specs.Root.{count, worth, root_bits, sqrt_of}
use Rattle.arithmetic.proofs.Patterns.{worth-mono, worth-at, worth-small, bits-value}
use Rattle.arithmetic.proofs.RootBits.{mid, AtRoot, root_bits-at}
use Rattle.arithmetic.proofs.Roots.{root-finite}
use Rattle.arithmetic.proofs.Steps.{even-square}
use Rattle.arithmetic.proofs.Magnitude.Size.{Within, Over, NonNeg, nonneg-over, zero-within, le-or-lt, within, over, plain}
use Rattle.arithmetic.proofs.Magnitude.Rounding.{within-value, apart-value}
use Rattle.arithmetic.proofs.Magnitude.Operations.{apart-pos}

below-zero : (m : ℕ) (e : ℤ) → (fin true (suc m) e <ᶠ 0ᶠ) ≡ true
unfolding lt of_bits
below-zero m e = lt-ltb 0 (suc m * up e * 1 + 0 * down e)
    (lt_of_lt_of_le (mul-pos (mul-pos (zero-lt-suc m) (up_pos e)) (lit< tt))
    (le-add_right (suc m * up e * 1) (0 * down e)))

-- the sign that a finite root has: none, or that of -0
pub data SignOfRoot : Float → Type 0 where
  upward : {m : ℕ} {e : ℤ} → SignOfRoot (fin false m e)
  minus-zero : {e : ℤ} → SignOfRoot (fin true 0 e)

nonneg-sign-of-root : {k : ℕ} {x : Float} → NonNeg x → Within k x → SignOfRoot x
nonneg-sign-of-root plain (within h) = upward
nonneg-sign-of-root {k = k} Rattle.arithmetic.proofs.Magnitude.Size.boundless x4 = elim x4 [ ]

-- ---- the pattern of a power of two

-- a pattern whose number is 2 ^ i smallest values
Pattern : ℕ → Type 0
Pattern i = (b : ℕ) × (worth b ≡ 2 ^ i)

pattern : (i : ℕ) → Pattern i
unfolding Pattern
pattern i = go (le-or-lt 23 i)
  where
    small : (i : ℕ) → i < 23 → 2 ^ i < 8388608
    small i l = lt_of_le_of_lt (pow_mono (le_of_suc-le-suc l)) (lit< tt)

    go : (23 ≤ i) ⊎ (i < 23) → (b : ℕ) × (worth b ≡ 2 ^ i)
    go (inl l) =
        let e : 23 + (i - 23) ≡ i = omega arith in (
          (i - 23) * 8388608 + 8388608,
          worth-at (i - 23) 8388608 (le_refl 8388608) (lit≤ tt)
              ∙ sym (pow-add 2 23 (i - 23)) ∙ ap (λ (z : ℕ). 2 ^ z) e,
        )
    go (inr l) = (2 ^ i, worth-small (2 ^ i) (small i l))

-- ---- a power of two about the root of n, and the pattern r of that root

square-lt : (a b : ℕ) → a < b → a * a < b * b
square-lt a b h = lt_of_le_of_lt (mul-le-mul_left a (le_of_lt h)) (mul-lt-mul_of_pos_right h (lt_of_le_of_lt zero-le h))

module _ (n r i : ℕ) (a : AtRoot n r) where
  upper-bound : n * 2 ^ 149 ≤ 2 ^ i * 2 ^ i → worth r ≤ 2 ^ i
  unfolding mid Pattern
  upper-bound h = le_of_suc-le-suc (lt_of_not-le big)
    where
      b : ℕ
      b = (pattern i).0

      v : worth b ≡ 2 ^ i
      v = (pattern i).1

      big : suc (2 ^ i) ≤ worth r → ⊥
      big k =
          let l : b < r = lt_of_not-le (λ (g : r ≤ b).
          lt_irrefl _ (lt_of_lt_of_le k (le_trans (worth-mono r b g) (le_of_eq v)))) in
          let s : 2 ^ i ≤ worth (r - 1) = le_trans (le_of_eq (sym v)) (worth-mono b (r - 1) (omega arith)) in
          let m : 2 ^ i + 2 ^ i < worth (r - 1) + worth r = omega arith in
          let q : 4 * n * 2 ^ 149 ≤ 4 * (2 ^ i * 2 ^ i) = le_trans (le_of_eq (mul_assoc 4 n (2 ^ 149))) (mul-le-mul_left 4 h) in
          lt_irrefl _ (lt_of_lt_of_le (square-lt _ _ m) (le_trans a.low (le_trans q (le_of_eq (sym (even-square (2 ^ i)))))))

  lower-bound : 2 ^ i * 2 ^ i ≤ n * 2 ^ 149 → 2 ^ i ≤ worth r
  unfolding mid Pattern
  lower-bound h = le_of_suc-le-suc (lt_of_not-le small)
    where
      b : ℕ
      b = (pattern i).0

      v : worth b ≡ 2 ^ i
      v = (pattern i).1

      same : r + 1 - 1 ≡ r
      same = add-sub_cancel r 1

      small : suc (worth r) ≤ 2 ^ i → ⊥
      small k =
          let w : worth r < 2 ^ i = k in
          let l : r < b = lt_of_not-le (λ (g : b ≤ r).
          lt_irrefl _ (lt_of_lt_of_le w (le_trans (le_of_eq (sym v)) (worth-mono b r g)))) in
          let s : worth (r + 1) ≤ 2 ^ i = le_trans (worth-mono (r + 1) b (omega arith)) (le_of_eq v) in
          let t : worth (r + 1 - 1) ≡ worth r = ap worth same in
          let m : worth (r + 1 - 1) + worth (r + 1) < 2 ^ i + 2 ^ i = omega arith in
          let q : 4 * (2 ^ i * 2 ^ i) ≤ 4 * n * 2 ^ 149 =
          le_trans (mul-le-mul_left 4 h) (le_of_eq (sym (mul_assoc 4 n (2 ^ 149)))) in
          lt_irrefl _ (lt_of_lt_of_le a.high
          (le_trans (le_of_lt (square-lt _ _ m)) (le_trans (le_of_eq (even-square (2 ^ i))) q)))

root-within : (n i : ℕ) → n < 2 ^ 277 → n * 2 ^ 149 ≤ 2 ^ i * 2 ^ i → Within i (of_bits binary32 (root_bits n))
root-within n i l h = within-value _ false (worth (root_bits n)) i (upper-bound n (root_bits n) i (root_bits-at n l) h)
    (bits-value (root_bits n) (root-finite n l))

value-nonneg : (x : Float) (n : ℕ) → HasValue x false n (2 ^ 149) → NonNeg x
value-nonneg nan n v = absurd v
value-nonneg (inf s) n v = absurd v
value-nonneg (fin true m e) n v = absurd (true≢false v.0)
value-nonneg (fin false m e) n v = plain

root-nonneg : (n : ℕ) → n < 2 ^ 277 → NonNeg (of_bits binary32 (root_bits n))
root-nonneg n l = value-nonneg _ (worth (root_bits n)) (bits-value (root_bits n) (root-finite n l))

root_over : (n i : ℕ) → n < 2 ^ 277 → 2 ^ i * 2 ^ i ≤ n * 2 ^ 149 → Over i (of_bits binary32 (root_bits n))
root_over n i l h = nonneg-over (root-nonneg n l) (apart-value _ false (worth (root_bits n)) i
    (lower-bound n (root_bits n) i (root_bits-at n l) h) (bits-value (root_bits n) (root-finite n l)))

-- ---- the root of a value

count-le : (m : ℕ) (e : ℤ) (k : ℕ) → m * up e * 2 ^ 149 ≤ 2 ^ k * down e → m * up e * 2 ^ 149 / down e ≤ 2 ^ k
count-le m e k h = div-le_of_le-mul (down e) (le_trans h (le_of_eq (mul_comm (2 ^ k) (down e))))

pub sqrt-within : {j : ℕ} {x : Float} (i : ℕ) → Within j x → (x <ᶠ 0ᶠ) ≡ false → (j + 149 ≤ i + i) × (i ≤ 276)
    × (j ≤ 276) → Within i (sqrt_of x)
unfolding sqrt_of count
sqrt-within i (within {s} {m = zero} {e} h) z c = zero-within s e i
sqrt-within i (within {s = true} {m = suc m} {e} h) z c = absurd (true≢false (sym (below-zero m e) ∙ z))
sqrt-within {j} i (within {s = false} {m = suc m} {e} h) z c =
    let n = count-le (suc m) e j h in
    root-within _ i (lt_of_le_of_lt n (lt_of_le_of_lt (pow_mono c.2) (lit< tt)))
    (le_trans (mul-le-mul_right (2 ^ 149) n) (le_trans (le_of_eq (sym (pow-add 2 j 149)))
    (le_trans (pow_mono c.0) (le_of_eq (pow-add 2 i i)))))

pub sqrt-over : {j : ℕ} {x : Float} (i : ℕ) → Over j x → Within 276 x → i + i ≤ j + 149 → Over i (sqrt_of x)
unfolding sqrt_of count
sqrt-over {j} i (over {m = zero} {e} h) w c = absurd (lt_irrefl 0 (apart-pos j 0 e h))
sqrt-over {j} i (over {m = suc m} {e} h) (within g) c =
    root_over _ i (lt_of_le_of_lt (count-le (suc m) e 276 g) (lit< tt))
    (le_trans (le_of_eq (sym (pow-add 2 i i)))
    (le_trans (pow_mono c) (le_trans (le_of_eq (pow-add 2 j 149))
    (mul-le-mul_right (2 ^ 149) ((le-div_iff_mul-le (down_pos e)).1 h)))))
sqrt-over {j = j} i Rattle.arithmetic.proofs.Magnitude.Size.infinite w c = elim w [ ]

pub sqrt-sign : {j k : ℕ} {x : Float} → Within j x → (x <ᶠ 0ᶠ) ≡ false → j ≤ 276 → Within k (sqrt_of x) → SignOfRoot (sqrt_of x)
unfolding sqrt_of count
sqrt-sign (within {s = true} {m = zero} {e} h) z J w = minus-zero
sqrt-sign (within {s = false} {m = zero} {e} h) z J w = upward
sqrt-sign (within {s = true} {m = suc m} {e} h) z J w = absurd (true≢false (sym (below-zero m e) ∙ z))
sqrt-sign {j} (within {s = false} {m = suc m} {e} h) z J w =
    nonneg-sign-of-root (root-nonneg (suc m * up e * 2 ^ 149 / down e)
    (lt_of_le_of_lt (count-le (suc m) e j h) (lt_of_le_of_lt (pow_mono J) (lit< tt)))) w
