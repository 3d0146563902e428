-- A vector of components up to 4, normalized, has components up to 2, as soon as its squared length is no zero
-- (`normalize-inside`). A component between 2 ^ i and 2 ^ (i + 1) makes the squared length 2 ^ 2i at least, so it is
-- multiplied by 2 ^ -i at most; below 2 ^ -74 it is by 2 ^ 75 at most. Assumes nothing.
use mathlib.Core.Path.{◌≡◌}
use mathlib.Core.Logic.{◌⊎◌, inl, inr}
use Prim.Native.Nat.{ℕ, zero, suc, ◌+◌, ◌-◌, ◌≤◌}
use native.Mathlib.Omega.{arith}
use mathlib.Core.Bool.{true}
use lib.Dec.{lit≤}
use lib.Ieee.{Float, of_bits}
use Rattle.arithmetic.specs.Binary32.{◌⊗◌, ◌⊘◌, 1ᶠ, finite}
use Rattle.arithmetic.specs.Root.{sqrt_of}
use Rattle.arithmetic.proofs.Magnitude.Size.{Within, Apart, Over, over-apart, wider, within-finite, within-or-apart, within}
use Rattle.arithmetic.proofs.Magnitude.Operations.{mul-within, square-over, div-within}
use Rattle.arithmetic.proofs.Magnitude.SquareRoots.{sqrt-over}
use Rattle.common.specs.declared.Vec2.{Vec2}
use Rattle.common.specs.Vectors.{mul_of, length_squared_of, normalize_of}
use Rattle.common.proofs.VectorSizes.{Inside, dot-within, length-squared-over-x, length-squared-over-y}

one-within : Within 149 1ᶠ
unfolding of_bits
one-within = within (lit≤ tt)

-- 1 over a length, from its square
pub inverse-within : {j : ℕ} {x : Float} (i l : ℕ) → Over j x → Within 276 x → (i + i ≤ j + 149) × (298 ≤ l + i)
    × (l ≤ 276) → Within l (1ᶠ ⊘ sqrt_of x)
inverse-within i l h w c = div-within l one-within (over-apart (sqrt-over i h w c.0)) (omega arith)

-- ---- between two powers of two

-- |x| lies between 2 ^ i and 2 ^ (i + 1) smallest values, for an i from j to k
record Binade (j k : ℕ) (x : Float) : Type 0 where
  i : ℕ
  least : j ≤ i
  most : i ≤ k
  from : Apart i x
  to : Within (i + 1) x

binade : {x : Float} (j d : ℕ) → finite x ≡ true → Apart j x → Within (j + d) x → Binade j (j + d) x
binade j zero f a w = record { i = j; least = omega arith; most = omega arith; from = a; to = wider (omega arith) w }
binade {x} j (suc d) f a w = go (within-or-apart (j + d) x f) (binade j d f a)
  where
    go : Within (j + d) x ⊎ Apart (j + d) x → (Within (j + d) x → Binade j (j + d) x) → Binade j (j + suc d) x
    go (inl v) ih =
        let b = ih v in
        record { i = b.i; least = b.least; most = omega arith; from = b.from; to = b.to }
    go (inr b) ih = record { i = j + d; least = omega arith; most = omega arith; from = b; to = wider (omega arith) w }

-- ---- a component over the length: at most 2, where its square reaches the length

module _ (x len : Float) (w : Within 151 x) (o : Over 0 len) (u : Within 276 len) (reaches : (j : ℕ) → 75 ≤ j →
    Apart j x → Over (j + j - 149) len) where
  component-within : Within 150 (x ⊗ (1ᶠ ⊘ sqrt_of len))
  component-within = go (within-or-apart 75 x (within-finite w))
    where
      between : Binade 75 151 x → Within 150 (x ⊗ (1ᶠ ⊘ sqrt_of len))
      between b =
          let i = b.i in
          let l = b.least in
          mul-within 150 b.to (inverse-within i (298 - i) (reaches i l b.from) u (omega arith)) (omega arith)

      go : Within 75 x ⊎ Apart 75 x → Within 150 (x ⊗ (1ᶠ ⊘ sqrt_of len))
      go (inl v) = mul-within 150 v (inverse-within 74 224 o u (omega arith)) (omega arith)
      go (inr a) = between (binade 75 76 (within-finite w) a w)

length-squared-within : {v : Vec2} → Inside 151 v → Within 276 (length_squared_of v)
unfolding length_squared_of
length-squared-within h = wider (omega arith) (dot-within 154 h h (omega arith))

pub normalize-inside : {v : Vec2} → Inside 151 v → Over 0 (length_squared_of v) → Inside 150 (normalize_of v)
unfolding normalize_of mul_of
normalize-inside {v} h o = record {
  x-in = component-within v.x (length_squared_of v) h.x-in o (length-squared-within h)
      (λ j l a. length-squared-over-x h (j + j - 149) (square-over (j + j - 149) a (within-finite h.x-in)
      (omega arith)));
  y-in = component-within v.y (length_squared_of v) h.y-in o (length-squared-within h)
      (λ j l a. length-squared-over-y h (j + j - 149) (square-over (j + j - 149) a (within-finite h.y-in)
      (omega arith)));
}
