-- What the steps inside `sqrt` rest on: Newton's step from a guess near the root, the one correction that may follow,
-- and a doubling that leaves a value as it is. Assumes nothing.
use mathlib.Core.Path.{◌≡◌, sym, ap, ◌∙◌, subst}
use mathlib.Core.Logic.{◌⊎◌, inl, inr}
use Prim.Native.Nat.{ℕ, zero, suc, ◌+◌, ◌-◌, ◌*◌, ◌/◌, ◌^◌, ◌≤◌, ◌<◌}
use native.Mathlib.Nat.{lt_of_not-le, le_of_mul-le-mul_right, mul-le-mul, mul_assoc, pow-succ', add-sub_of_le, sub-add_cancel, div-mul-le_self, lt-div-mul-add, eq-zero-or-pos}
use native.Mathlib.Omega.{arith}
use Rattle.arithmetic.specs.Guesses.{RootWithin, farthest}
use Rattle.arithmetic.specs.Whole.{RootNearest, RootNearestOrNext}

-- ---- squares of two numbers that differ by d
ahead : (x d : ℕ) → x * x + (x + d) * (x + d) ≡ 2 * (x * (x + d)) + d * d
ahead x d = omega arith

ordered : (x y : ℕ) → x ≤ y → x * x + y * y ≡ 2 * (x * y) + (y - x) * (y - x)
ordered x y h = subst (λ (z : ℕ). x * x + z * z ≡ 2 * (x * z) + (y - x) * (y - x)) (add-sub_of_le h) (ahead x (y - x))

-- twice a product is at most the sum of the squares
pub mean : (x y : ℕ) → 2 * (x * y) ≤ x * x + y * y
mean x y = elim (eq-zero-or-pos (x - y)) [
  | inl e ↦ omega (arith, ordered x y (omega arith))
  | inr l ↦ omega (arith, ordered y x (omega arith))
]

-- and falls short of it by no more than the square of how far the two may be apart
mean-near : (x y c : ℕ) → x ≤ y + c → y ≤ x + c → x * x + y * y ≤ 2 * (x * y) + c * c
mean-near x y c h k = elim (eq-zero-or-pos (x - y)) [
  | inl e ↦ (let s : y - x ≤ c = omega arith in omega (arith, ordered x y (omega arith), mul-le-mul s s))
  | inr l ↦ (let s : x - y ≤ c = omega arith in omega (arith, ordered y x (omega arith), mul-le-mul s s))
]

pub even-square : (a : ℕ) → (a + a) * (a + a) ≡ 4 * (a * a)
even-square a = omega arith

two_back : (x y : ℕ) → y + 2 ≡ x → y * y + 4 * x ≡ x * x + 4
two_back x y e = rw (← e) (omega arith)

-- ---- Newton's step: m is the mean of g and of q, the whole part of w / g, rounded up. Its root is not above m, whatever g is
not-below : (w g q m : ℕ) → w < q * g + g → g + q ≤ m + m → 4 * w < (m + (m + 1)) * (m + (m + 1))
not-below w g q m up h =
    let s : g + (q + 1) ≤ m + (m + 1) = omega arith in
    omega (arith, mul-le-mul s s, mean g (q + 1))

not-far : (w g q m : ℕ) → q * g ≤ w → g * g + q * q ≤ 2 * (g * q) + 4097 * 4097 → 8386560 ≤ g → m + m ≤ g + q + 1
    → (m - 1 - 1 + (m - 1)) * (m - 1 - 1 + (m - 1)) ≤ 4 * w
not-far w g q m down near least h =
    let s : m - 1 - 1 + (m - 1) ≤ g + q - 2 = omega arith in
    omega (arith, mul-le-mul s s, two_back (g + q) (g + q - 2) (omega arith))

-- ---- the same from a guess that is near enough: at most 4097 from w / g
square-back : (a w : ℕ) → a * a ≤ w → (a + 2048) * (a + 2048) ≤ w + 4096 * (a + 2048)
square-back a w h = omega arith

module _ (w g : ℕ) (least : 70368744177664 ≤ w) (most : w < 281474976710656) (G : RootWithin farthest w g) where
  guess-least : 8386560 ≤ g
  guess-least = lt_of_not-le (λ (l : g ≤ 8386559). small l)
    where
      small : g ≤ 8386559 → ⊥
      small l =
          let s : g + 2048 ≤ 8388607 = omega arith in
          omega (arith, mul-le-mul s s, G.high)

  guess-most : g < 16779264
  guess-most = lt_of_not-le (λ (l : 16779264 ≤ g). big l)
    where
      big : 16779264 ≤ g → ⊥
      big l =
          let s : 16777216 ≤ g - 2048 = omega arith in
          omega (arith, mul-le-mul s s, G.low)

  pub guess-pos : 0 < g
  guess-pos = omega (arith, guess-least)

  above : w / g ≤ g + 4097
  above = le_of_mul-le-mul_right {k = g} (omega (arith, div-mul-le_self w g, G.high, guess-least)) guess-pos

  below : g ≤ w / g + 4097
  below =
      let far : 2048 ≤ g = omega (arith, guess-least) in
      let s = subst (λ (x : ℕ). x * x ≤ w + 4096 * x) (sub-add_cancel far) (square-back (g - 2048) w G.low) in
      le_of_mul-le-mul_right {k = g} (omega (arith, lt-div-mul-add {a = w} {b = g} guess-pos, s)) guess-pos

  pub sum-most : g + w / g + 1 < 67108864
  sum-most = omega (arith, above, guess-most)

  pub nearest-or-next : RootNearestOrNext w ((g + w / g + 1) / 2)
  nearest-or-next = record {
    low = not-far w g (w / g) _ (div-mul-le_self w g) (mean-near g (w / g) 4097 below above)
        (omega (arith, guess-least)) (omega arith);
    high = not-below w g (w / g) _ (lt-div-mul-add guess-pos) (omega arith);
  }

-- ---- the correction: y + m is twice the midpoint of m and of y, the number before it
midpoint : (m y : ℕ) → y + 1 ≡ m → (y + m) * (y + m) + 4 * m ≡ 4 * (m * m) + 1
midpoint m y e = rw (← e) (omega arith)

pub some-root : (w m : ℕ) → RootNearestOrNext w m → 0 < w → 0 < m
some-root w zero N p = omega (arith, N.high)
some-root w (suc k) N p = omega arith

pub nearest-before : (w m : ℕ) → RootNearestOrNext w m → 0 < w → w + m ≤ m * m → RootNearest w (m - 1)
nearest-before w m N p h =
    let e : m - 1 + 1 ≡ m = omega (arith, some-root w m N p) in
    record { low = N.low; high = rw e (omega (arith, midpoint m (m - 1) e)) }

pub nearest-here : (w m : ℕ) → RootNearestOrNext w m → m * m < w + m → RootNearest w m
nearest-here w zero N h = record { low = omega arith; high = N.high }
nearest-here w (suc k) N h = record { low = omega (arith, midpoint (suc k) (suc k - 1) (omega arith)); high = N.high }

-- ---- doubling the digits
pub room : (d s b : ℕ) → 0 < b → d * 2 ^ s ≡ b * 2 ^ 23 → d < 8388608 → 1 ≤ s
room d zero b p e h = omega arith
room d (suc s) b p e h = omega arith

pub doubled : (d s v : ℕ) → 1 ≤ s → d * 2 ^ s ≡ v → d * 2 * 2 ^ (s - 1) ≡ v
doubled d s v h e =
    let q : suc (s - 1) ≡ s = omega arith in
    mul_assoc d 2 (2 ^ (s - 1)) ∙ ap (λ (x : ℕ). d * x) (sym (pow-succ' 2 (s - 1)) ∙ ap (λ (x : ℕ). 2 ^ x) q) ∙ e
