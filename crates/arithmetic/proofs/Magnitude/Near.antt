-- Two numbers whose rounded difference is at most 2 ^ -74 are both at most 2 ^ -48, or have one sign and differ by at
-- most 2 ^ -73 (`near-or-small`). For two such pairs the crosswise products differ by 4 * 2 ^ -73 before they are
-- rounded, and each is moved by 2 ^ -20 at most: so their difference is small. Assumes nothing.
use mathlib.Core.Path.{◌≡◌, refl, sym, ◌∙◌, ap}
use mathlib.Core.Logic.{◌⊎◌, inl, inr}
use Prim.Native.Nat.{ℕ, ◌+◌, ◌-◌, ◌*◌, ◌^◌, ◌≤◌, ◌<◌}
use native.Mathlib.Nat.{le_trans, le_of_eq, mul-le-mul_right, le_of_mul-le-mul_right, mul-pos, le_refl, mul-add, add-mul, mul_comm, mul_assoc, mul_left_comm, mul_right_comm, mul-le-mul_left, add-le-add}
use native.Mathlib.Omega.{arith}
use mathlib.Core.Bool.{Bool, true, false, false≢true, cond, not}
use lib.Dec.{lit≤, ltb}
use lib.IntN.{ℤ}
use lib.Pow.{pow_pos}
use lib.Ieee.{Float, nan, inf, fin, binary32, up, down, round, neg, sum, add, sub, unlike, mul}
use lib.Ieee.Exact.{HasValue}
use lib.Ieee.Fits.{down_pos}
use Rattle.arithmetic.specs.Binary32.{◌⊖◌, ◌⊗◌, finite}
use Rattle.arithmetic.proofs.Magnitude.Size.{Within, Apart, Over, NonNeg, wider, within-finite, le-or-lt, within-or-apart, apart-not-within, within, apart, endless}
use Rattle.arithmetic.proofs.Magnitude.Rounding.{rounded_units, units-near, round-value, round-within, round-apart, round-nonneg, round-over}
use Rattle.arithmetic.proofs.Magnitude.Operations.{sub_within, product_le, product-ge, mul-within, sum-ge-left, sub-mul, sum-apart, apart-sum, sub-apart-within, sub-within-apart}

-- x / de is at most y / dd and 2 ^ 76 smallest values, 2 ^ -73
abbrev Reaches : ℕ → ℕ → ℕ → ℕ → Type 0
Reaches x de y dd = x * dd * 2 ^ 149 ≤ y * de * 2 ^ 149 + 2 ^ 76 * (de * dd)

-- two finite numbers of one sign that differ by at most 2 ^ -73
pub data Near : Float → Float → Type 0 where
  near : {s : Bool} {m n : ℕ} {e d : ℤ} → Reaches (m * up e) (down e) (n * up d) (down d) →
      Reaches (n * up d) (down d) (m * up e) (down e) → Near (fin s m e) (fin s n d)

-- ---- where the rounded difference is at most 2 ^ -74

excess : (p q r u : ℕ) → q * u + r < p * u → r ≤ (p - q) * u
excess p q r u h = le_trans (go (p * u) (q * u) h) (le_of_eq (sym (sub-mul p q u)))
  where
    go : (x y : ℕ) → y + r < x → r ≤ x - y
    go x y l = omega arith

-- opposite signs add
added : (m n : ℕ) (e d : ℤ) (k : ℕ) (s : Bool) → 2 ^ k * down e ≤ m * up e * 2 ^ 149 →
    Apart k (round binary32 s (m * up e * down d + n * up d * down e) (down e * down d))
added m n e d k s h = round-apart s (m * up e * down d + n * up d * down e) (down e * down d) k
    (mul-pos (down_pos e) (down_pos d)) (sum-ge-left k m n e d h)

module _ (m n : ℕ) (e d : ℤ) (h : 2 ^ 99 * down e ≤ m * up e * 2 ^ 149) where
  C : 0 < down e * down d
  C = mul-pos (down_pos e) (down_pos d)

  Difference : Bool → Bool → Type 0
  Difference s t = Within 75 (sum binary32 s (m * up e * down d) (not t) (n * up d * down e) (down e * down d))

  not_more : (s t : Bool) → Difference s t → Reaches (m * up e) (down e) (n * up d) (down d)
  unfolding Difference
  not_more s t w = go (le-or-lt (m * up e * down d * 2 ^ 149) (n * up d * down e * 2 ^ 149 + 2 ^ 76 * (down e * down d)))
    where
      go : (m * up e * down d * 2 ^ 149 ≤ n * up d * down e * 2 ^ 149 + 2 ^ 76 * (down e * down d))
          ⊎ (n * up d * down e * 2 ^ 149 + 2 ^ 76 * (down e * down d) < m * up e * down d * 2 ^ 149)
          → m * up e * down d * 2 ^ 149 ≤ n * up d * down e * 2 ^ 149 + 2 ^ 76 * (down e * down d)
      go (inl l) = l
      go (inr l) = absurd (apart-not-within (sum-apart (m * up e * down d) (n * up d * down e) (down e * down d) 76 C
          (excess (m * up e * down d) (n * up d * down e) (2 ^ 76 * (down e * down d)) (2 ^ 149) l) s (not t)) w
          (omega arith))

  not-less : (s t : Bool) → Difference s t → Reaches (n * up d) (down d) (m * up e) (down e)
  unfolding Difference
  not-less s t w = go (le-or-lt (n * up d * down e * 2 ^ 149) (m * up e * down d * 2 ^ 149 + 2 ^ 76 * (down d * down e)))
    where
      go : (n * up d * down e * 2 ^ 149 ≤ m * up e * down d * 2 ^ 149 + 2 ^ 76 * (down d * down e))
          ⊎ (m * up e * down d * 2 ^ 149 + 2 ^ 76 * (down d * down e) < n * up d * down e * 2 ^ 149)
          → n * up d * down e * 2 ^ 149 ≤ m * up e * down d * 2 ^ 149 + 2 ^ 76 * (down d * down e)
      go (inl l) = l
      go (inr l) =
          absurd (apart-not-within (apart-sum (n * up d * down e) (m * up e * down d) (down e * down d) 76 C
          (le_trans (le_of_eq (ap (λ (z : ℕ). 2 ^ 76 * z) (mul_comm (down e) (down d))))
          (excess (n * up d * down e) (m * up e * down d) (2 ^ 76 * (down d * down e)) (2 ^ 149) l)) s (not t)) w
          (omega arith))

  signs : (s t : Bool) → Difference s t → Near (fin s m e) (fin t n d)
  unfolding Difference sum
  signs true true w = near (not_more true true w) (not-less true true w)
  signs false false w = near (not_more false false w) (not-less false false w)
  signs true false w = absurd (apart-not-within (added m n e d 99 true h) w (omega arith))
  signs false true w = absurd (apart-not-within (added m n e d 99 false h) w (omega arith))

one-sign : {x y : Float} → Apart 99 x → finite x ≡ true → finite y ≡ true → Within 75 (x ⊖ y) → Near x y
unfolding finite sub add neg Difference
one-sign endless p q w = absurd (false≢true p)
one-sign {y = nan} (apart h) p q w = absurd (false≢true q)
one-sign {y = inf t} (apart h) p q w = absurd (false≢true q)
one-sign {y = fin t n d} (apart {s} {m} {e} h) p q w = signs m n e d h s t w

pub near-or-small : (x y : Float) → finite x ≡ true → finite y ≡ true → Within 75 (x ⊖ y) →
    Near x y ⊎ (Within 101 x × Within 101 y)
near-or-small x y p q w = first (within-or-apart 100 y q)
  where
    small : Within 100 y → Within 101 x ⊎ Apart 101 x → Near x y ⊎ (Within 101 x × Within 101 y)
    small v (inl u) = inr (u, wider (omega arith) v)
    small v (inr u) = absurd (apart-not-within (sub-apart-within u v (omega arith)) w (omega arith))

    large : Apart 100 y → Within 99 x ⊎ Apart 99 x → Near x y ⊎ (Within 101 x × Within 101 y)
    large v (inl u) = absurd (apart-not-within (sub-within-apart u v (omega arith)) w (omega arith))
    large v (inr u) = inl (one-sign u p q w)

    first : Within 100 y ⊎ Apart 100 y → Near x y ⊎ (Within 101 x × Within 101 y)
    first (inl v) = small v (within-or-apart 101 x p)
    first (inr v) = large v (within-or-apart 99 x p)

-- ---- products of one sign

pub near-product-nonneg : {x y : Float} → Near x y → NonNeg (y ⊗ x)
unfolding mul
near-product-nonneg (near {s = true} {m} {n} {e} {d} h g) = round-nonneg (n * up d * (m * up e)) (down d * down e)
near-product-nonneg (near {s = false} {m} {n} {e} {d} h g) = round-nonneg (n * up d * (m * up e)) (down d * down e)

near-product-over : {x y : Float} (j k l : ℕ) → Near x y → Apart j y → Apart k x → l + 149 ≤ j + k → Over l (y ⊗ x)
unfolding mul
near-product-over j k l (near {s = true} {m} {n} {e} {d} h g) (apart a) (apart b) c =
    round-over (n * up d * (m * up e)) (down d * down e) l (mul-pos (down_pos d) (down_pos e))
    (product-ge (n * up d) (m * up e) (down d) (down e) j k l c a b)
near-product-over j k l (near {s = false} {m} {n} {e} {d} h g) (apart a) (apart b) c =
    round-over (n * up d * (m * up e)) (down d * down e) l (mul-pos (down_pos d) (down_pos e))
    (product-ge (n * up d) (m * up e) (down d) (down e) j k l c a b)

-- ---- crosswise products: na / da and nb / db, near nx / dx and ny / dy, each at most 2

module _ (na da nb db nx dx ny dy u δ : ℕ) (h : ny * db * u ≤ nb * dy * u + δ * (dy * db))
    (g : na * dx * u ≤ nx * da * u + δ * (da * dx)) (A : na ≤ 2 * da) (B : nb ≤ 2 * db) where
  cross : na * ny * u * (db * dx) ≤ nb * nx * u * (da * dy) + 4 * (δ * (da * dy * (db * dx)))
  cross =
      let s₁ : na * dx * (ny * db * u) ≤ na * dx * (nb * dy * u) + na * dx * (δ * (dy * db)) =
      le_trans (mul-le-mul_left (na * dx) h) (le_of_eq (mul-add (na * dx) (nb * dy * u) (δ * (dy * db)))) in
      let s₂ : nb * dy * (na * dx * u) ≤ nb * dy * (nx * da * u) + nb * dy * (δ * (da * dx)) =
      le_trans (mul-le-mul_left (nb * dy) g) (le_of_eq (mul-add (nb * dy) (nx * da * u) (δ * (da * dx)))) in
      let t₁ : na * dx * (δ * (dy * db)) ≤ 2 * da * dx * (δ * (dy * db)) =
      mul-le-mul_right (δ * (dy * db)) (mul-le-mul_right dx A) in
      let t₂ : nb * dy * (δ * (da * dx)) ≤ 2 * db * dy * (δ * (da * dx)) =
      mul-le-mul_right (δ * (da * dx)) (mul-le-mul_right dy B) in
      let e₁ : na * ny * u * (db * dx) ≡ na * dx * (ny * db * u) = simp (mul_assoc, mul_comm, mul_left_comm) in
      let e₂ : na * dx * (nb * dy * u) ≡ nb * dy * (na * dx * u) = simp (mul_assoc, mul_left_comm) in
      let e₃ : nb * dy * (nx * da * u) ≡ nb * nx * u * (da * dy) = simp (mul_assoc, mul_comm, mul_left_comm) in
      let e₄ : 2 * da * dx * (δ * (dy * db)) ≡ 2 * (δ * (da * dy * (db * dx))) = simp (mul_assoc, mul_comm, mul_left_comm) in
      let e₅ : 2 * db * dy * (δ * (da * dx)) ≡ 2 * (δ * (da * dy * (db * dx))) = simp (mul_assoc, mul_comm, mul_left_comm) in
      omega arith

  -- both rounded, r and k the results, each moved by at most ε
  module _ (r k ε : ℕ) (E : 0 < da * dy * (db * dx)) (p : r * (da * dy) ≤ na * ny * u + ε * (da * dy))
      (q : nb * nx * u ≤ k * (db * dx) + ε * (db * dx)) where
    rounded : r ≤ k + (2 * ε + 4 * δ)
    rounded =
        let e = da * dy * (db * dx) in
        let s₁ : r * (da * dy) * (db * dx) ≤ na * ny * u * (db * dx) + ε * (da * dy) * (db * dx) =
        le_trans (mul-le-mul_right (db * dx) p) (le_of_eq (add-mul (na * ny * u) (ε * (da * dy)) (db * dx))) in
        let s₂ : nb * nx * u * (da * dy) ≤ k * (db * dx) * (da * dy) + ε * (db * dx) * (da * dy) =
        le_trans (mul-le-mul_right (da * dy) q) (le_of_eq (add-mul (k * (db * dx)) (ε * (db * dx)) (da * dy))) in
        let c = cross in
        let l : r * e ≤ (k + (2 * ε + 4 * δ)) * e = omega arith in
        le_of_mul-le-mul_right l E

-- ---- the difference of two values of one sign

parts : (x y de dd g h p : ℕ) → x * 2 ^ 149 ≡ g * de → y * 2 ^ 149 ≡ h * dd → g ≤ h + p →
    (x * dd - y * de) * 2 ^ 149 ≤ p * (de * dd)
parts x y de dd g h p a b l =
    let c = de * dd in
    let e₁ : x * dd * 2 ^ 149 ≡ g * c = mul_right_comm x dd (2 ^ 149) ∙ ap (λ (z : ℕ). z * dd) a ∙ mul_assoc g de dd in
    let e₂ : y * de * 2 ^ 149 ≡ h * c = mul_right_comm y de (2 ^ 149) ∙ ap (λ (z : ℕ). z * de) b ∙ mul_assoc h dd de
    ∙ ap (λ (z : ℕ). h * z) (mul_comm dd de) in
    le_trans (le_of_eq (sub-mul (x * dd) (y * de) (2 ^ 149) ∙ rw (e₁, e₂) (sym (sub-mul g h c)))) (mul-le-mul_right c (left l))
  where
    left : g ≤ h + p → g - h ≤ p
    left l = omega arith

difference-within : (x y : Float) (s : Bool) (g h k : ℕ) → k ≤ 276 → HasValue x s g (2 ^ 149) → HasValue y s h (2 ^ 149)
    → g ≤ h + 2 ^ k → h ≤ g + 2 ^ k → Within k (x ⊖ y)
unfolding sub add neg sum
difference-within nan y s g h k K v w a b = absurd v
difference-within (inf t) y s g h k K v w a b = absurd v
difference-within (fin t m e) nan s g h k K v w a b = absurd w
difference-within (fin t m e) (inf r) s g h k K v w a b = absurd w
difference-within (fin t m e) (fin r n d) s g h k K v w a b = rw (v.0, w.0) (go s)
  where
    C : 0 < down e * down d
    C = mul-pos (down_pos e) (down_pos d)

    either_way : (q t r : Bool) → Within k
        (cond q (round binary32 t (n * up d * down e - m * up e * down d) (down e * down d))
        (round binary32 r (m * up e * down d - n * up d * down e) (down e * down d)))
    either_way true t r = round-within t (n * up d * down e - m * up e * down d) (down e * down d) k C K
        (le_trans (parts (n * up d) (m * up e) (down d) (down e) h g (2 ^ k) w.1 v.1 b)
        (le_of_eq (ap (λ (z : ℕ). 2 ^ k * z) (mul_comm (down d) (down e)))))
    either_way false t r = round-within r (m * up e * down d - n * up d * down e) (down e * down d) k C K
        (parts (m * up e) (n * up d) (down e) (down d) g h (2 ^ k) v.1 w.1 a)

    go : (s : Bool) → Within k (sum binary32 s (m * up e * down d) (not s) (n * up d * down e) (down e * down d))
    go true = either_way (ltb (m * up e * down d) (n * up d * down e)) false (ltb (n * up d * down e) (m * up e * down d))
    go false = either_way (ltb (m * up e * down d) (n * up d * down e)) true false

-- ---- so the determinant of two near vectors is small

twice : (m : ℕ) (e : ℤ) → m * up e * 2 ^ 149 ≤ 2 ^ 150 * down e → m * up e ≤ 2 * down e
twice m e h = le_of_mul-le-mul_right (le_trans h (le_of_eq (mul_right_comm 2 (2 ^ 149) (down e)))) (pow_pos 149)

unlike-swap : (s t : Bool) → unlike s t ≡ unlike t s
unlike-swap true true = refl
unlike-swap true false = refl
unlike-swap false true = refl
unlike-swap false false = refl

near-determinant-within : {a b x y : Float} → Within 150 a → Within 150 b → Within 150 x → Within 150 y → Near x a →
    Near y b → Within 131 (a ⊗ y ⊖ b ⊗ x)
unfolding mul
near-determinant-within (within A) (within B) (within X) (within Y) (near {s} {m = mx} {n = ma} {e = ex} {d = ea} h g)
    (near {s = t} {m = my} {n = mb} {e = ey} {d = eb} h' g') =
    difference-within _ _ (unlike s t) left right 131 (omega arith) (round-value (unlike s t) (na * ny) (da * dy) 151 C₁
    (omega arith) l₁) (rw (unlike-swap s t) (round-value (unlike t s) (nb * nx) (db * dx) 151 C₂ (omega arith) l₂))
    (le_trans (rounded na da nb db nx dx ny dy (2 ^ 149) (2 ^ 76) h' g (twice ma ea A) (twice mb eb B) left right
    (2 ^ 129) (mul-pos C₁ C₂) n₁.0 n₂.1) (add-le-add (le_refl right) (lit≤ tt)))
    (le_trans (rounded nb db na da ny dy nx dx (2 ^ 149) (2 ^ 76) h g' (twice mb eb B) (twice ma ea A) right left
    (2 ^ 129) (mul-pos C₂ C₁) n₂.0 n₁.1) (add-le-add (le_refl left) (lit≤ tt)))
  where
    na : ℕ
    na = ma * up ea

    nb : ℕ
    nb = mb * up eb

    nx : ℕ
    nx = mx * up ex

    ny : ℕ
    ny = my * up ey

    da : ℕ
    da = down ea

    db : ℕ
    db = down eb

    dx : ℕ
    dx = down ex

    dy : ℕ
    dy = down ey

    C₁ : 0 < da * dy
    C₁ = mul-pos (down_pos ea) (down_pos ey)

    C₂ : 0 < db * dx
    C₂ = mul-pos (down_pos eb) (down_pos ex)

    l₁ : na * ny * 2 ^ 149 ≤ 2 ^ 151 * (da * dy)
    l₁ = product_le na ny da dy 150 150 151 (omega arith) A Y

    l₂ : nb * nx * 2 ^ 149 ≤ 2 ^ 151 * (db * dx)
    l₂ = product_le nb nx db dx 150 150 151 (omega arith) B X

    left : ℕ
    left = rounded_units (na * ny) (da * dy)

    right : ℕ
    right = rounded_units (nb * nx) (db * dx)

    n₁ : (left * (da * dy) ≤ na * ny * 2 ^ 149 + 2 ^ 129 * (da * dy))
        × (na * ny * 2 ^ 149 ≤ left * (da * dy) + 2 ^ 129 * (da * dy))
    n₁ = units-near (na * ny) (da * dy) C₁ (le_trans l₁ (mul-le-mul_right (da * dy) (lit≤ tt)))

    n₂ : (right * (db * dx) ≤ nb * nx * 2 ^ 149 + 2 ^ 129 * (db * dx))
        × (nb * nx * 2 ^ 149 ≤ right * (db * dx) + 2 ^ 129 * (db * dx))
    n₂ = units-near (nb * nx) (db * dx) C₂ (le_trans l₂ (mul-le-mul_right (db * dx) (lit≤ tt)))

-- ---- two pairs, each near or small

-- what `near-or-small` gives
abbrev pub Close : Float → Float → Type 0
Close x y = Near x y ⊎ (Within 101 x × Within 101 y)

pub close-determinant-within : (a b x y : Float) → Within 150 a → Within 150 b → Within 150 x → Within 150 y → Close x a
    → Close y b → Within 132 (a ⊗ y ⊖ b ⊗ x)
close-determinant-within a b x y A B X Y (inl p) (inl q) = wider (omega arith) (near-determinant-within A B X Y p q)
close-determinant-within a b x y A B X Y (inr p) c =
    wider (omega arith) (sub_within 103 (mul-within 102 p.1 Y (omega arith)) (mul-within 102 B p.0 (omega arith))
    (omega arith))
close-determinant-within a b x y A B X Y (inl p) (inr q) =
    wider (omega arith) (sub_within 103 (mul-within 102 A q.0 (omega arith)) (mul-within 102 q.1 X (omega arith))
    (omega arith))

-- a from 1/4 on, and x near it: the product is from 1/32 on
pub near-product-large : {a x : Float} → Near x a → Within 150 x → Within 75 (x ⊖ a) → Apart 147 a → Over 144 (a ⊗ x)
near-product-large {a} {x} n X w h = near-product-over 147 146 144 n h (go (within-or-apart 146 x (within-finite X)))
    (omega arith)
  where
    go : Within 146 x ⊎ Apart 146 x → Apart 146 x
    go (inl v) = absurd (apart-not-within (sub-within-apart v h (omega arith)) w (omega arith))
    go (inr v) = v
