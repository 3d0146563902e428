-- What each operation makes of sizes. As a size is a power of two, a law asks only about exponents, in one product as
-- its last argument, and `omega arith` gives that; the exponent of the result is its first. Each proof bounds the
-- fraction that `lib.Ieee` rounds, and cites Rounding. Assumes nothing.
use mathlib.Core.Path.{◌≡◌, refl, sym, ◌∙◌, ap}
use mathlib.Core.Logic.{◌⊎◌, inl, inr}
use Prim.Native.Nat.{ℕ, zero, suc, ◌+◌, ◌-◌, ◌*◌, ◌^◌, ◌≤◌, ◌<◌, zero-le}
use native.Mathlib.Nat.{le_trans, le_of_eq, lt_of_lt_of_le, lt_irrefl, zero-mul, mul-le-mul_right, le_of_mul-le-mul_right, mul-pos, add-mul, mul_comm, mul_assoc, mul_left_comm, mul_right_comm, mul-le-mul_left, le-add_right, add-le-add, le_of_lt, mul-mul-mul_comm, zero-lt-suc, mul-le-mul, sub-le, two-pow-succ, add_comm, mul-sub}
use native.Mathlib.Omega.{arith}
use mathlib.Core.Bool.{Bool, true, false, false≢true, ◌&&◌, cond, not, beq}
use lib.Dec.{ltb}
use lib.IntN.{ℤ, pos}
use lib.Pow.{pow_pos, pow-add, pow_mono}
use lib.Ieee.{Float, nan, inf, fin, binary32, up, down, round, neg, sum, add, sub, unlike, mul, div}
use lib.Ieee.Fits.{down_pos, up_pos}
use borrow.Author.Tests.{lt-ltb, ne_eqb, le-ltb}
use Rattle.arithmetic.specs.Binary32.{◌⊕◌, ◌⊖◌, ◌⊗◌, ◌⊘◌, finite}
use Rattle.arithmetic.specs.Ends.{min_of, max_of, clamp_of}
use Rattle.arithmetic.proofs.Choice.{if-all}
use Rattle.arithmetic.proofs.Magnitude.Size.{Within, Apart, Over, NonNeg, le-or-lt, within, apart, endless, over, infinite, plain, boundless}
use Rattle.arithmetic.proofs.Magnitude.Rounding.{round-within, round-apart, round-nonneg, round-over}

-- ---- the other sign

pub neg-within : {k : ℕ} {x : Float} → Within k x → Within k (neg x)
unfolding neg
neg-within (within h) = within h

-- ---- the sum

-- x / de is at most p smallest values, and so is the same over de * dd
beside : (x p de dd : ℕ) → x * 2 ^ 149 ≤ p * de → x * dd * 2 ^ 149 ≤ p * (de * dd)
beside x p de dd h = le_trans (le_of_eq (mul_right_comm x dd (2 ^ 149)))
    (le_trans (mul-le-mul_right dd h) (le_of_eq (mul_assoc p de dd)))

sum-within : (s t : Bool) (a b c l : ℕ) → 0 < c → l ≤ 276 → (a + b) * 2 ^ 149 ≤ 2 ^ l * c → Within l (sum binary32 s a t b c)
unfolding sum
sum-within s t a b c l C L h = go (beq s t) (ltb a b) (s && ltb b a)
  where
    less : (x : ℕ) → x ≤ a + b → x * 2 ^ 149 ≤ 2 ^ l * c
    less x k = le_trans (mul-le-mul_right (2 ^ 149) k) h

    go : (p q r : Bool) → Within l (cond p (round binary32 s (a + b) c)
        (cond q (round binary32 t (b - a) c) (round binary32 r (a - b) c)))
    go true q r = round-within s (a + b) c l C L h
    go false true r = round-within t (b - a) c l C L (less (b - a) (omega arith))
    go false false r = round-within r (a - b) c l C L (less (a - b) (omega arith))

two-parts : (j k l : ℕ) → j < l → k < l → 2 ^ j + 2 ^ k ≤ 2 ^ l
two-parts j k zero p q = absurd (omega arith)
two-parts j k (suc l) p q = le_trans (add-le-add (pow_mono (le_of p)) (pow_mono (le_of q))) (le_of_eq (sym (two-pow-succ l)))
  where
    le_of : {i : ℕ} → i < suc l → i ≤ l
    le_of r = omega arith

pub sum-le : (m n : ℕ) (e d : ℤ) (j k l : ℕ) → j < l → k < l → m * up e * 2 ^ 149 ≤ 2 ^ j * down e →
    n * up d * 2 ^ 149 ≤ 2 ^ k * down d
    → (m * up e * down d + n * up d * down e) * 2 ^ 149 ≤ 2 ^ l * (down e * down d)
sum-le m n e d j k l p q h g =
    le_trans (le_of_eq (add-mul (m * up e * down d) (n * up d * down e) (2 ^ 149)))
    (le_trans (add-le-add (beside (m * up e) (2 ^ j) (down e) (down d) h)
    (le_trans (beside (n * up d) (2 ^ k) (down d) (down e) g)
    (le_of_eq (ap (λ (z : ℕ). 2 ^ k * z) (mul_comm (down d) (down e))))))
    (le_trans (le_of_eq (sym (add-mul (2 ^ j) (2 ^ k) (down e * down d))))
    (mul-le-mul_right (down e * down d) (two-parts j k l p q))))

pub add-within : {j k : ℕ} {x y : Float} (l : ℕ) → Within j x → Within k y → (j < l) × (k < l) × (l ≤ 276) → Within l (x ⊕ y)
unfolding add
add-within {j} {k} l (within {s} {m} {e} h) (within {s = t} {m = n} {e = d} g) c =
    sum-within s t (m * up e * down d) (n * up d * down e) (down e * down d) l (mul-pos (down_pos e) (down_pos d))
    c.2 (sum-le m n e d j k l c.0 c.1 h g)

pub sub_within : {j k : ℕ} {x y : Float} (l : ℕ) → Within j x → Within k y → (j < l) × (k < l) × (l ≤ 276) → Within l (x ⊖ y)
unfolding sub
sub_within l h g c = add-within l h (neg-within g) c

-- ---- the product

pub product_le : (x y de dd j k l : ℕ) → j + k ≤ l + 149 → x * 2 ^ 149 ≤ 2 ^ j * de → y * 2 ^ 149 ≤ 2 ^ k * dd →
    x * y * 2 ^ 149 ≤ 2 ^ l * (de * dd)
product_le x y de dd j k l c h g =
    le_of_mul-le-mul_right
    (le_trans (le_of_eq (mul_assoc (x * y) (2 ^ 149) (2 ^ 149) ∙ mul-mul-mul_comm x y (2 ^ 149) (2 ^ 149)))
    (le_trans (mul-le-mul h g)
    (le_trans (le_of_eq (mul-mul-mul_comm (2 ^ j) de (2 ^ k) dd ∙ ap (λ (z : ℕ). z * (de * dd)) (sym (pow-add 2 j k))))
    (le_trans (mul-le-mul_right (de * dd) (pow_mono c)) (le_of_eq (ap (λ (z : ℕ). z * (de * dd)) (pow-add 2 l 149)
    ∙ mul_right_comm (2 ^ l) (2 ^ 149) (de * dd)))))))
    (pow_pos 149)

pub product-ge : (x y de dd j k l : ℕ) → l + 149 ≤ j + k → 2 ^ j * de ≤ x * 2 ^ 149 → 2 ^ k * dd ≤ y * 2 ^ 149 →
    2 ^ l * (de * dd) ≤ x * y * 2 ^ 149
product-ge x y de dd j k l c h g =
    le_of_mul-le-mul_right
    (le_trans (le_of_eq (sym (ap (λ (z : ℕ). z * (de * dd)) (pow-add 2 l 149) ∙ mul_right_comm (2 ^ l) (2 ^ 149) (de * dd))))
    (le_trans (mul-le-mul_right (de * dd) (pow_mono c))
    (le_trans (le_of_eq (sym (mul-mul-mul_comm (2 ^ j) de (2 ^ k) dd ∙ ap (λ (z : ℕ). z * (de * dd)) (sym (pow-add 2 j k)))))
    (le_trans (mul-le-mul h g) (le_of_eq (sym (mul_assoc (x * y) (2 ^ 149) (2 ^ 149)
    ∙ mul-mul-mul_comm x y (2 ^ 149) (2 ^ 149))))))))
    (pow_pos 149)

pub mul-within : {j k : ℕ} {x y : Float} (l : ℕ) → Within j x → Within k y → (j + k ≤ l + 149) × (l ≤ 276) → Within l (x ⊗ y)
unfolding mul
mul-within {j} {k} l (within {s} {m} {e} h) (within {s = t} {m = n} {e = d} g) c =
    round-within (unlike s t) (m * up e * (n * up d)) (down e * down d) l (mul-pos (down_pos e) (down_pos d)) c.1
    (product_le (m * up e) (n * up d) (down e) (down d) j k l c.0 h g)

pub square-nonneg : (x : Float) → finite x ≡ true → NonNeg (x ⊗ x)
unfolding finite mul
square-nonneg nan f = absurd (false≢true f)
square-nonneg (inf s) f = absurd (false≢true f)
square-nonneg (fin true m e) f = round-nonneg (m * up e * (m * up e)) (down e * down e)
square-nonneg (fin false m e) f = round-nonneg (m * up e * (m * up e)) (down e * down e)

pub square-over : {j : ℕ} {x : Float} (l : ℕ) → Apart j x → finite x ≡ true → l + 149 ≤ j + j → Over l (x ⊗ x)
unfolding mul finite
square-over {j} l (apart {s = true} {m} {e} h) f c =
    round-over (m * up e * (m * up e)) (down e * down e) l (mul-pos (down_pos e) (down_pos e))
    (product-ge (m * up e) (m * up e) (down e) (down e) j j l c h h)
square-over {j} l (apart {s = false} {m} {e} h) f c =
    round-over (m * up e * (m * up e)) (down e * down e) l (mul-pos (down_pos e) (down_pos e))
    (product-ge (m * up e) (m * up e) (down e) (down e) j j l c h h)
square-over l endless f c = absurd (false≢true f)

-- ---- the sum with what is not negative

pub sum-ge-left : (k m n : ℕ) (e d : ℤ) → 2 ^ k * down e ≤ m * up e * 2 ^ 149 →
    2 ^ k * (down e * down d) ≤ (m * up e * down d + n * up d * down e) * 2 ^ 149
sum-ge-left k m n e d h =
    le_trans (le_of_eq (sym (mul_assoc (2 ^ k) (down e) (down d))))
    (le_trans (mul-le-mul_right (down d) h)
    (le_trans (le_of_eq (mul_right_comm (m * up e) (2 ^ 149) (down d)))
    (mul-le-mul_right (2 ^ 149) (le-add_right (m * up e * down d) (n * up d * down e)))))

sum-ge-right : (k m n : ℕ) (e d : ℤ) → 2 ^ k * down d ≤ n * up d * 2 ^ 149 →
    2 ^ k * (down e * down d) ≤ (m * up e * down d + n * up d * down e) * 2 ^ 149
sum-ge-right k m n e d h =
    le_trans (le_of_eq (ap (λ (z : ℕ). 2 ^ k * z) (mul_comm (down e) (down d))))
    (le_trans (sum-ge-left k n m d e h)
    (le_of_eq (ap (λ (z : ℕ). z * 2 ^ 149) (add_comm (n * up d * down e) (m * up e * down d)))))

pub add-over-nonneg : {k : ℕ} {x y : Float} → Over k x → NonNeg y → Over k (x ⊕ y)
unfolding add sum
add-over-nonneg {k} (over {m} {e} h) (plain {m = n} {e = d}) =
    round-over (m * up e * down d + n * up d * down e) (down e * down d) k (mul-pos (down_pos e) (down_pos d))
    (sum-ge-left k m n e d h)
add-over-nonneg (over h) boundless = infinite
add-over-nonneg infinite plain = infinite
add-over-nonneg infinite boundless = infinite

pub add-nonneg-over : {k : ℕ} {x y : Float} → NonNeg x → Over k y → Over k (x ⊕ y)
unfolding add sum
add-nonneg-over {k} (plain {m} {e}) (over {m = n} {e = d} h) =
    round-over (m * up e * down d + n * up d * down e) (down e * down d) k (mul-pos (down_pos e) (down_pos d))
    (sum-ge-right k m n e d h)
add-nonneg-over boundless (over h) = infinite
add-nonneg-over plain infinite = infinite
add-nonneg-over boundless infinite = infinite

-- ---- the quotient

quotient_le : (x y de dd j p l : ℕ) → j + 149 ≤ l + p → x * 2 ^ 149 ≤ 2 ^ j * de → 2 ^ p * dd ≤ y * 2 ^ 149 →
    x * dd * 2 ^ 149 ≤ 2 ^ l * (y * de)
quotient_le x y de dd j p l c h g =
    le_of_mul-le-mul_right
    (le_trans (mul-le-mul_right (2 ^ 149) (beside x (2 ^ j) de dd h))
    (le_trans (le_of_eq (mul_right_comm (2 ^ j) (de * dd) (2 ^ 149) ∙ ap (λ (z : ℕ). z * (de * dd)) (sym (pow-add 2 j 149))))
    (le_trans (mul-le-mul_right (de * dd) (pow_mono c))
    (le_trans (le_of_eq (ap (λ (z : ℕ). z * (de * dd)) (pow-add 2 l p) ∙ mul_assoc (2 ^ l) (2 ^ p) (de * dd)
    ∙ ap (λ (z : ℕ). 2 ^ l * z) (mul_left_comm (2 ^ p) de dd ∙ mul_comm de (2 ^ p * dd))))
    (le_trans (mul-le-mul_left (2 ^ l) (mul-le-mul_right de g))
    (le_of_eq (ap (λ (z : ℕ). 2 ^ l * z) (mul_right_comm y (2 ^ 149) de)
    ∙ sym (mul_assoc (2 ^ l) (y * de) (2 ^ 149)))))))))
    (pow_pos 149)

pub apart-pos : (p n : ℕ) (d : ℤ) → 2 ^ p * down d ≤ n * up d * 2 ^ 149 → 0 < n
apart-pos p zero d g = absurd (lt_irrefl 0 (lt_of_lt_of_le (mul-pos (pow_pos p) (down_pos d))
    (le_trans g (le_of_eq (ap (λ (z : ℕ). z * 2 ^ 149) (zero-mul (up d)))))))
apart-pos p (suc n) d g = zero-lt-suc n

pub div-within : {j p : ℕ} {x y : Float} (l : ℕ) → Within j x → Apart p y → (j + 149 ≤ l + p) × (l ≤ 276) → Within l (x ⊘ y)
unfolding div
div-within {j} {p} l (within {s} {m} {e} h) (apart {s = t} {m = n} {e = d} g) c =
    let n_pos = apart-pos p n d g in
    rw (ne_eqb n 0 (omega arith))
    (round-within (unlike s t) (m * up e * down d) (n * up d * down e) l (mul-pos (mul-pos n_pos (up_pos d)) (down_pos e)) c.1
    (quotient_le (m * up e) (n * up d) (down e) (down d) j p l c.0 h g))
div-within l (within h) endless c = within {m = 0} {e = pos 0} zero-le

-- ---- one of two

pub min-within : {k : ℕ} {x y : Float} → Within k x → Within k y → Within k (min_of x y)
unfolding min_of
min-within {k} h g = if-all (Within k) _ g (if-all (Within k) _ g h)

pub max-within : {k : ℕ} {x y : Float} → Within k x → Within k y → Within k (max_of x y)
unfolding max_of
max-within {k} h g = if-all (Within k) _ g (if-all (Within k) _ g h)

pub clamp-within : {k : ℕ} {t x y : Float} → Within k t → Within k x → Within k y → Within k (clamp_of t x y)
unfolding clamp_of
clamp-within {k} f h g = if-all (Within k) _ h (if-all (Within k) _ g f)

-- ---- the sum with something smaller

pub sub-mul : (a b u : ℕ) → (a - b) * u ≡ a * u - b * u
sub-mul a b u = mul_comm (a - b) u ∙ mul-sub u a b ∙ rw (mul_comm u a, mul_comm u b) refl

half-left : (a b p : ℕ) → b ≤ p → p + p ≤ a → p ≤ a - b
half-left a b p h g = omega arith

-- what is at least 2 ^ (k + 1), less what is at most 2 ^ k, is at least 2 ^ k
difference-ge : (m n : ℕ) (e d : ℤ) (j k : ℕ) → k < j → 2 ^ j * down e ≤ m * up e * 2 ^ 149 → n * up d * 2 ^ 149 ≤ 2 ^ k * down d
    → 2 ^ k * (down e * down d) ≤ (m * up e * down d - n * up d * down e) * 2 ^ 149
difference-ge m n e d j k l h g =
    let c = down e * down d in
    let big : 2 ^ suc k * c ≤ m * up e * down d * 2 ^ 149 =
    le_trans (mul-le-mul_right c (pow_mono l))
    (le_trans (le_of_eq (sym (mul_assoc (2 ^ j) (down e) (down d))))
    (le_trans (mul-le-mul_right (down d) h) (le_of_eq (mul_right_comm (m * up e) (2 ^ 149) (down d))))) in
    let small : n * up d * down e * 2 ^ 149 ≤ 2 ^ k * c =
    le_trans (beside (n * up d) (2 ^ k) (down d) (down e) g)
    (le_of_eq (ap (λ (z : ℕ). 2 ^ k * z) (mul_comm (down d) (down e)))) in
    le_trans (half-left (m * up e * down d * 2 ^ 149) (n * up d * down e * 2 ^ 149) (2 ^ k * c) small
    (le_trans (le_of_eq (sym (ap (λ (z : ℕ). z * c) (two-pow-succ k) ∙ add-mul (2 ^ k) (2 ^ k) c))) big))
    (le_of_eq (sym (sub-mul (m * up e * down d) (n * up d * down e) (2 ^ 149))))

less-of-difference : (x y p u c : ℕ) → 0 < p → 0 < c → p * c ≤ (x - y) * u → y < x
less-of-difference x y p u c P C h = go (le-or-lt x y)
  where
    go : (x ≤ y) ⊎ (y < x) → y < x
    go (inl l) =
        let z : x - y ≡ 0 = omega arith in
        absurd (lt_irrefl 0 (lt_of_lt_of_le (mul-pos P C) (le_trans h (le_of_eq (ap (λ (w : ℕ). w * u) z ∙ zero-mul u)))))
    go (inr l) = l

-- ± a ± b, where a - b is at least 2 ^ k
module _ (a b c k : ℕ) (C : 0 < c) (h : 2 ^ k * c ≤ (a - b) * 2 ^ 149) where
  larger : b < a
  larger = less-of-difference a b (2 ^ k) (2 ^ 149) c (pow_pos k) C h

  whole : 2 ^ k * c ≤ (a + b) * 2 ^ 149
  whole = le_trans h (mul-le-mul_right (2 ^ 149) (le_trans (sub-le a b) (le-add_right a b)))

  pub sum-apart : (s t : Bool) → Apart k (sum binary32 s a t b c)
  unfolding sum
  sum-apart s t = go (beq s t) (s && ltb b a)
    where
      go : (p r : Bool) → Apart k (cond p (round binary32 s (a + b) c) (cond (ltb a b) (round binary32 t (b - a) c)
          (round binary32 r (a - b) c)))
      go true r = round-apart s (a + b) c k C whole
      go false r = rw (le-ltb a b (le_of_lt larger)) (round-apart r (a - b) c k C h)

  pub apart-sum : (s t : Bool) → Apart k (sum binary32 s b t a c)
  unfolding sum
  apart-sum s t = go (beq s t) (s && ltb a b)
    where
      go : (p r : Bool) → Apart k (cond p (round binary32 s (b + a) c) (cond (ltb b a) (round binary32 t (a - b) c)
          (round binary32 r (b - a) c)))
      go true r = round-apart s (b + a) c k C (le_trans whole (mul-le-mul_right (2 ^ 149) (le_of_eq (add_comm a b))))
      go false r = rw (lt-ltb b a larger) (round-apart t (a - b) c k C h)

  sum_over : (t : Bool) → Over k (sum binary32 false a t b c)
  unfolding sum
  sum_over false = round-over (a + b) c k C whole
  sum_over true = rw (le-ltb a b (le_of_lt larger)) (round-over (a - b) c k C h)

  over-sum : (t : Bool) → Over k (sum binary32 t b false a c)
  unfolding sum
  over-sum false = round-over (b + a) c k C (le_trans whole (mul-le-mul_right (2 ^ 149) (le_of_eq (add_comm a b))))
  over-sum true = rw (lt-ltb b a larger) (round-over (a - b) c k C h)

add-apart-within : {j k : ℕ} {x y : Float} → Apart j x → Within k y → k < j → Apart k (x ⊕ y)
unfolding add
add-apart-within {j} {k} (apart {s} {m} {e} h) (within {s = t} {m = n} {e = d} g) l =
    sum-apart (m * up e * down d) (n * up d * down e) (down e * down d) k (mul-pos (down_pos e) (down_pos d))
    (difference-ge m n e d j k l h g) s t
add-apart-within endless (within g) l = endless

pub sub-apart-within : {j k : ℕ} {x y : Float} → Apart j x → Within k y → k < j → Apart k (x ⊖ y)
unfolding sub
sub-apart-within h g l = add-apart-within h (neg-within g) l

pub sub-within-apart : {j k : ℕ} {x y : Float} → Within k x → Apart j y → k < j → Apart k (x ⊖ y)
unfolding sub add neg
sub-within-apart {j} {k} (within {s = t} {m = n} {e = d} g) (apart {s} {m} {e} h) l =
    apart-sum (m * up e * down d) (n * up d * down e) (down d * down e) k (mul-pos (down_pos d) (down_pos e))
    (le_trans (le_of_eq (ap (λ (z : ℕ). 2 ^ k * z) (mul_comm (down d) (down e)))) (difference-ge m n e d j k l h g))
    t (not s)
sub-within-apart (within g) endless l = endless

pub add-over-within : {j k : ℕ} {x y : Float} → Over j x → Within k y → k < j → Over k (x ⊕ y)
unfolding add
add-over-within {j} {k} (over {m} {e} h) (within {s = t} {m = n} {e = d} g) l =
    sum_over (m * up e * down d) (n * up d * down e) (down e * down d) k (mul-pos (down_pos e) (down_pos d))
    (difference-ge m n e d j k l h g) t
add-over-within infinite (within g) l = infinite

pub add-within-over : {j k : ℕ} {x y : Float} → Within k x → Over j y → k < j → Over k (x ⊕ y)
unfolding add
add-within-over {j} {k} (within {s = t} {m = n} {e = d} g) (over {m} {e} h) l =
    over-sum (m * up e * down d) (n * up d * down e) (down d * down e) k (mul-pos (down_pos d) (down_pos e))
    (le_trans (le_of_eq (ap (λ (z : ℕ). 2 ^ k * z) (mul_comm (down d) (down e)))) (difference-ge m n e d j k l h g)) t
add-within-over (within g) infinite l = infinite
