-- A number less itself is zero exactly where the number is finite. Assumes nothing.
use Prim.Native.Nat.{ℕ, ◌*◌, ◌<◌}
use mathlib.Core.Path.{◌≡◌, refl, sym, ◌∙◌}
use mathlib.Core.Bool.{Bool, true, false}
use native.Mathlib.Nat.{zero-mul, sub_self, le_refl, mul-pos, eq_of_mul-eq-mul_right}
use borrow.Author.Tests.{le-ltb}
use lib.Dec.{lit<}
use lib.IntN.{ℤ}
use lib.Ieee.{Float, binary32, nan, inf, fin, up, down, add, sub, neg, sum, round, eq, of_bits}
use lib.Ieee.Exact.{HasValue, round_exact}
use lib.Ieee.Fits.{down_pos}
use Rattle.arithmetic.specs.Binary32.{0ᶠ, finite}

no_size : (m c : ℕ) (e : ℤ) → 0 < c → m * up e * c ≡ 0 * down e → m * up e ≡ 0
no_size m c e p h = eq_of_mul-eq-mul_right c p (m * up e) 0 (h ∙ zero-mul (down e) ∙ sym (zero-mul c))

zero-level : (x : Float) (s : Bool) (c : ℕ) → 0 < c → HasValue x s 0 c → eq x 0ᶠ ≡ true
unfolding eq of_bits
zero-level nan s c p h = absurd h
zero-level (inf t) s c p h = absurd h
zero-level (fin true m e) s c p h = rw (no_size m c e p h.1, zero-mul (down e))
zero-level (fin false m e) s c p h = rw (no_size m c e p h.1, zero-mul (down e))

-- 0 over c is rounded to a zero
nothing-over : (c : ℕ) → 0 < c → eq (round binary32 false 0 c) 0ᶠ ≡ true
nothing-over c p = zero-level (round binary32 false 0 c) false c p (round_exact binary32 false 0 c 0 0 p (lit< tt)
    (lit< tt) (sym (zero-mul c)))

eq-nan : eq nan 0ᶠ ≡ false
unfolding eq
eq-nan = refl

module _ (m : ℕ) (e : ℤ) where
  size : ℕ
  size = m * up e * down e

  none_left : (s : Bool) → sub binary32 (fin s m e) (fin s m e) ≡ round binary32 false 0 (down e * down e)
  unfolding sub add neg sum size
  none_left true = rw (le-ltb size size (le_refl size), sub_self size)
  none_left false = rw (le-ltb size size (le_refl size), sub_self size)

pub finite-difference : (x : Float) → eq (sub binary32 x x) 0ᶠ ≡ finite x
unfolding sub add neg finite
finite-difference nan = eq-nan
finite-difference (inf true) = eq-nan
finite-difference (inf false) = eq-nan
finite-difference (fin s m e) = rw (none_left m e s) (nothing-over (down e * down e) (mul-pos (down_pos e) (down_pos e)))
