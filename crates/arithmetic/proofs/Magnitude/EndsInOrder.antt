-- The ends of a chord are in order: x - r ≤ x + r for a root r (`ends-le`); and two finite numbers are in order where
-- the second is not less (`not-lt-le`). Both sums have one denominator, and rounding keeps the order of what it rounds.
-- Assumes nothing.
use mathlib.Core.Path.{◌≡◌, refl, sym, ◌∙◌, ap}
use mathlib.Core.Logic.{◌⊎◌, inl, inr}
use Prim.Native.Nat.{ℕ, ◌+◌, ◌-◌, ◌*◌, ◌^◌, ◌≤◌, ◌<◌}
use native.Mathlib.Nat.{le_trans, le_of_eq, lt_of_lt_of_le, lt_irrefl, eq-zero-or-pos, zero-mul, mul-le-mul_right, le_of_mul-le-mul_right, mul-pos, eq-or-lt_of_le}
use native.Mathlib.Omega.{arith}
use mathlib.Core.Bool.{Bool, true, false, ◌&&◌, ◌||◌, cond, true≢false}
use lib.Dec.{T, ltb, eqb}
use lib.Pow.{pow_pos}
use lib.Ieee.{Float, nan, inf, fin, binary32, up, down, round, neg, sum, add, sub, lt, le, below, level}
use lib.Ieee.Exact.{HasValue}
use lib.Ieee.Fits.{down_pos}
use lib.Ieee.Order.{transfer, round_mono}
use borrow.Author.Tests.{ltb-true, ltb-false, lt-ltb, eq-eqb}
use Rattle.arithmetic.specs.Binary32.{◌⊕◌, ◌⊖◌, ◌<ᶠ◌, ◌≤ᶠ◌}
use Rattle.arithmetic.proofs.Choice.{one-or}
use Rattle.arithmetic.proofs.Magnitude.Size.{Within, within}
use Rattle.arithmetic.proofs.Magnitude.Rounding.{rounded_units, round-value, units-zero}
use Rattle.arithmetic.proofs.Magnitude.Operations.{sum-le}
use Rattle.arithmetic.proofs.Magnitude.Comparisons.{le-numbers, numbers-le}
use Rattle.arithmetic.proofs.Magnitude.SquareRoots.{SignOfRoot, upward, minus-zero}

-- ---- ± p ≤ ± q, where `true` stands for minus

abbrev Below : Bool → ℕ → Bool → ℕ → Type 0
Below false p false q = p ≤ q
Below false p true q = (p ≡ 0) × (q ≡ 0)
Below true p false q = Unit {0}
Below true p true q = q ≤ p

-- ± a ≤ ± b as `le` has it
abbrev Test : Bool → ℕ → Bool → ℕ → Bool
Test s a t b = below s a t b || level s a t b

test_of : (s : Bool) (a : ℕ) (t : Bool) (b : ℕ) → Below s a t b → Test s a t b ≡ true
test_of false a false b h = numbers-le a b true h refl
test_of false a true b h = rw (h.0, h.1) refl
test_of true a true b h = go (eq-or-lt_of_le h)
  where
    go : (b ≡ a) ⊎ (b < a) → (ltb b a || (eqb a b && true)) ≡ true
    go (inl e) = one-or (ltb b a) (eqb a b && true) (inr (rw (eq-eqb a b (sym e)) refl))
    go (inr l) = one-or (ltb b a) (eqb a b && true) (inl (lt-ltb b a l))
test_of true a false b h = go (eq-zero-or-pos (a + b))
  where
    go : (a + b ≡ 0) ⊎ (0 < a + b) → (ltb 0 (a + b) || (eqb a b && (false || eqb a 0))) ≡ true
    go (inl z) =
        let p : a ≡ 0 = omega arith in
        let q : b ≡ 0 = omega arith in
        rw (p, q) refl
    go (inr l) = rw (lt-ltb 0 (a + b) l) refl

-- where it is not greater
pub not-lt-le : {j k : ℕ} {x y : Float} → Within j x → Within k y → (y <ᶠ x) ≡ false → (x ≤ᶠ y) ≡ true
unfolding lt le
not-lt-le (within {s} {m} {e} h) (within {s = t} {m = n} {e = d} g) l =
    test_of s (m * up e * down d) t (n * up d * down e) (go s t l)
  where
    go : (s t : Bool) → below t (n * up d * down e) s (m * up e * down d) ≡ false →
        Below s (m * up e * down d) t (n * up d * down e)
    go false false l = ltb-false _ _ l
    go false true l =
        let z = ltb-false 0 (n * up d * down e + m * up e * down d) l in
        (omega arith, omega arith)
    go true false l = tt
    go true true l = ltb-false _ _ l

-- ---- values by the fractions that they equal

zero-across : (x c p de dd : ℕ) → 0 < c → x * c ≡ p * de → p ≡ 0 → x * dd ≡ 0
zero-across x c p de dd C h z = go (eq-zero-or-pos x)
  where
    go : (x ≡ 0) ⊎ (0 < x) → x * dd ≡ 0
    go (inl e) = rw e (zero-mul dd)
    go (inr l) = absurd (lt_irrefl 0 (lt_of_lt_of_le (mul-pos l C) (le_of_eq (h ∙ ap (λ (y : ℕ). y * de) z ∙ zero-mul de))))

value-le : (x y : Float) (s t : Bool) (p q c : ℕ) → 0 < c → HasValue x s p c → HasValue y t q c → Below s p t q → (x ≤ᶠ y) ≡ true
unfolding le
value-le nan y s t p q c C h g b = absurd h
value-le (inf u) y s t p q c C h g b = absurd h
value-le (fin u m e) nan s t p q c C h g b = absurd g
value-le (fin u m e) (inf v) s t p q c C h g b = absurd g
value-le (fin u m e) (fin v n d) s t p q c C h g b =
    rw (h.0, g.0) (test_of s (m * up e * down d) t (n * up d * down e) (go s t b))
  where
    go : (s t : Bool) → Below s p t q → Below s (m * up e * down d) t (n * up d * down e)
    go false false b = transfer (m * up e) (n * up d) (down e) (down d) p q c c C C h.1 g.1 (mul-le-mul_right c b)
    go true true b = transfer (n * up d) (m * up e) (down d) (down e) q p c c C C g.1 h.1 (mul-le-mul_right c b)
    go true false b = tt
    go false true b = (
      zero-across (m * up e) c p (down e) (down d) C h.1 b.0,
      zero-across (n * up d) c q (down d) (down e) C g.1 b.1,
    )

le-value : (x y : Float) (p q c : ℕ) → 0 < c → HasValue x false p c → HasValue y false q c → T (le x y) → p ≤ q
unfolding le
le-value nan y p q c C h g b = absurd h
le-value (inf u) y p q c C h g b = absurd h
le-value (fin u m e) nan p q c C h g b = absurd g
le-value (fin u m e) (inf v) p q c C h g b = absurd g
le-value (fin true m e) (fin v n d) p q c C h g b = absurd (true≢false h.0)
le-value (fin false m e) (fin true n d) p q c C h g b = absurd (true≢false g.0)
le-value (fin false m e) (fin false n d) p q c C h g b =
    le_of_mul-le-mul_right
    (transfer p q c c (m * up e) (n * up d) (down e) (down d) (down_pos e) (down_pos d) (sym h.1) (sym g.1)
    (le-numbers _ _ (told _ b)))
    C
  where
    told : (t : Bool) → T t → t ≡ true
    told true u = refl
    told false u = absurd u

-- ---- sums over one denominator

module _ (c k : ℕ) (C : 0 < c) (K : k ≤ 276) where
  units_mono : (a b : ℕ) → b * 2 ^ 149 ≤ 2 ^ k * c → a ≤ b → rounded_units a c ≤ rounded_units b c
  units_mono a b h l =
      le-value (round binary32 false a c) (round binary32 false b c) (rounded_units a c) (rounded_units b c) (2 ^ 149) (pow_pos 149)
      (round-value false a c k C K (le_trans (mul-le-mul_right (2 ^ 149) l) h)) (round-value false b c k C K h)
      (round_mono binary32 a c b c C C (mul-le-mul_right c l))

  rounded-le : (s t : Bool) (a b : ℕ) → a * 2 ^ 149 ≤ 2 ^ k * c → b * 2 ^ 149 ≤ 2 ^ k * c → Below s a t b →
      (round binary32 s a c ≤ᶠ round binary32 t b c) ≡ true
  rounded-le s t a b h g l = value-le _ _ s t (rounded_units a c) (rounded_units b c) (2 ^ 149) (pow_pos 149)
      (round-value s a c k C K h) (round-value t b c k C K g) (go s t l)
    where
      go : (s t : Bool) → Below s a t b → Below s (rounded_units a c) t (rounded_units b c)
      go false false l = units_mono a b g l
      go true true l = units_mono b a h l
      go true false l = tt
      go false true l = (rw l.0 (units-zero c C), rw l.1 (units-zero c C))

  module _ (a b : ℕ) (h : (a + b) * 2 ^ 149 ≤ 2 ^ k * c) where
    less : (x : ℕ) → x ≤ a + b → x * 2 ^ 149 ≤ 2 ^ k * c
    less x l = le_trans (mul-le-mul_right (2 ^ 149) l) h

    -- ± a - b ≤ ± a + b
    sums-le : (s : Bool) → (sum binary32 s a true b c ≤ᶠ sum binary32 s a false b c) ≡ true
    unfolding sum
    sums-le false = go (ltb a b)
      where
        go : (q : Bool) → (cond q (round binary32 true (b - a) c) (round binary32 false (a - b) c) ≤ᶠ round binary32
            false (a + b) c) ≡ true
        go true = rounded-le true false (b - a) (a + b) (less (b - a) (omega arith)) h tt
        go false = rounded-le false false (a - b) (a + b) (less (a - b) (omega arith)) h (omega arith)
    sums-le true = go (ltb a b) (ltb b a)
      where
        go : (q r : Bool) → (round binary32 true (a + b) c ≤ᶠ cond q (round binary32 false (b - a) c)
            (round binary32 r (a - b) c)) ≡ true
        go true r = rounded-le true false (a + b) (b - a) h (less (b - a) (omega arith)) tt
        go false true = rounded-le true true (a + b) (a - b) h (less (a - b) (omega arith)) (omega arith)
        go false false = rounded-le true false (a + b) (a - b) h (less (a - b) (omega arith)) tt

    -- with b = 0, the other way round
    none-le : (s : Bool) → b ≡ 0 → (sum binary32 s a false b c ≤ᶠ sum binary32 s a true b c) ≡ true
    unfolding sum
    none-le false z = go (ltb a b) refl
      where
        go : (q : Bool) → ltb a b ≡ q → (round binary32 false (a + b) c ≤ᶠ cond q (round binary32 true (b - a) c)
            (round binary32 false (a - b) c)) ≡ true
        go true e = absurd (let l = ltb-true a b e in omega arith)
        go false e = rounded-le false false (a + b) (a - b) h (less (a - b) (omega arith)) (omega arith)
    none-le true z = go (ltb a b) refl (ltb b a) refl
      where
        go : (q : Bool) → ltb a b ≡ q → (r : Bool) → ltb b a ≡ r →
            (cond q (round binary32 false (b - a) c) (round binary32 r (a - b) c) ≤ᶠ round binary32 true (a + b) c)
            ≡ true
        go true e r f = absurd (let l = ltb-true a b e in omega arith)
        go false e true f = rounded-le true true (a - b) (a + b) (less (a - b) (omega arith)) h (omega arith)
        go false e false f =
            let l = ltb-false b a f in
            rounded-le false true (a - b) (a + b) (less (a - b) (omega arith)) h (omega arith, omega arith)

-- ---- x - r ≤ x + r

pub ends-le : {j k : ℕ} {x r : Float} (l : ℕ) → Within j x → Within k r → SignOfRoot r → (j < l) × (k < l) × (l ≤ 276) →
    (x ⊖ r ≤ᶠ x ⊕ r) ≡ true
unfolding sub add neg
ends-le {j} {k} l (within {s} {m} {e} h) (within g) (upward {m = n} {e = d}) c =
    sums-le (down e * down d) l (mul-pos (down_pos e) (down_pos d)) c.2 (m * up e * down d) (n * up d * down e)
    (sum-le m n e d j k l c.0 c.1 h g) s
ends-le {j} {k} l (within {s} {m} {e} h) (within g) (minus-zero {e = d}) c =
    none-le (down e * down d) l (mul-pos (down_pos e) (down_pos d)) c.2 (m * up e * down d) (0 * up d * down e)
    (sum-le m 0 e d j k l c.0 c.1 h g) s (simp zero-mul)
