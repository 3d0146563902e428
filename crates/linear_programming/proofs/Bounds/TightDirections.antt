-- The direction of a tightened line is at most 2 in size: two admitted directions that are not parallel, or point
-- against each other, are not the same. Assumes nothing.
use mathlib.Core.Path.{◌≡◌, sym, ◌∙◌}
use mathlib.Core.Logic.{◌⊎◌, inl, inr}
use native.Mathlib.Omega.{arith}
use mathlib.Core.Bool.{true, false, false≢true, true≢false}
use lib.Ieee.{Float}
use Rattle.arithmetic.specs.Binary32.{◌⊕◌, ◌⊖◌, ◌⊗◌, ◌<ᶠ◌, ◌≤ᶠ◌, 0ᶠ, finite}
use Rattle.arithmetic.specs.Ends.{abs_of}
use Rattle.arithmetic.proofs.Magnitude.Size.{Within, Apart, Over, wider, lower, within-finite, within-or-apart}
use Rattle.arithmetic.proofs.Magnitude.Operations.{add-within, mul-within, square-over, add-over-nonneg, add-nonneg-over, add-over-within, add-within-over}
use Rattle.arithmetic.proofs.Magnitude.Comparisons.{within-le, over-not-le, over-positive}
use Rattle.arithmetic.proofs.Magnitude.Near.{near-or-small, near-product-nonneg, Close, close-determinant-within, near-product-large}
use Rattle.common.specs.Vectors.{sub_of, dot_of, length_squared_of, normalize_of, determinant_of}
use Rattle.common.proofs.VectorSizes.{Inside, sub-inside, length-squared-over-x, length-squared-over-y}
use Rattle.common.proofs.NormalizedSize.{normalize-inside}
use Rattle.lines.specs.declared.Line.{Line}
use Rattle.lines.specs.Lines.{epsilon}
use Rattle.lines.specs.LineFaults.{band_low}
use Rattle.linear_programming.proofs.Bounds.SolveSizes.{epsilon-over}
use Rattle.linear_programming.proofs.Bounds.Admitted.{Admitted, low-over}

-- ---- two directions, (a, b) and (x, y), whose differences are small: parallel, and, the first in its band, one way

module _ (a b x y : Float) (A : Within 150 a) (B : Within 150 b) (X : Within 150 x) (Y : Within 150 y)
    (wx : Within 75 (x ⊖ a)) (wy : Within 75 (y ⊖ b)) (band : (band_low ≤ᶠ a ⊗ a ⊕ b ⊗ b) ≡ true) where
  -- not both are at most 1/4
  not_short : Within 147 a → Within 147 b → ⊥
  not_short p q =
      false≢true (sym (over-not-le low-over (add-within 146 (mul-within 145 p p (omega arith))
      (mul-within 145 q q (omega arith)) (omega arith)) (omega arith)) ∙ band)

  ahead : Close x a → Close y b → (0ᶠ <ᶠ a ⊗ x ⊕ b ⊗ y) ≡ true
  ahead (inl p) (inl q) = go (within-or-apart 147 a (within-finite A)) (within-or-apart 147 b (within-finite B))
    where
      go : Within 147 a ⊎ Apart 147 a → Within 147 b ⊎ Apart 147 b → (0ᶠ <ᶠ a ⊗ x ⊕ b ⊗ y) ≡ true
      go (inr h) c = over-positive (add-over-nonneg (near-product-large p X wx h) (near-product-nonneg q))
      go (inl v) (inr h) = over-positive (add-nonneg-over (near-product-nonneg p) (near-product-large q Y wy h))
      go (inl v) (inl w) = absurd (not_short v w)
  ahead (inl p) (inr q) = go (within-or-apart 147 a (within-finite A))
    where
      go : Within 147 a ⊎ Apart 147 a → (0ᶠ <ᶠ a ⊗ x ⊕ b ⊗ y) ≡ true
      go (inr h) = over-positive (add-over-within (near-product-large p X wx h)
          (mul-within 53 q.1 q.0 (omega arith)) (omega arith))
      go (inl v) = absurd (not_short v (wider (omega arith) q.1))
  ahead (inr p) (inl q) = go (within-or-apart 147 b (within-finite B))
    where
      go : Within 147 b ⊎ Apart 147 b → (0ᶠ <ᶠ a ⊗ x ⊕ b ⊗ y) ≡ true
      go (inr h) = over-positive (add-within-over (mul-within 53 p.1 p.0 (omega arith))
          (near-product-large q Y wy h) (omega arith))
      go (inl v) = absurd (not_short (wider (omega arith) p.1) v)
  ahead (inr p) (inr q) = absurd (not_short (wider (omega arith) p.1) (wider (omega arith) q.1))

-- ---- so the difference has a length

module _ (own prev : Line) (O : Admitted own) (P : Admitted prev) where
  difference-in : Inside 151 (sub_of prev.direction own.direction)
  difference-in = sub-inside 151 P.line-in.direction-in O.line-in.direction-in (omega arith)

  -- the lines are not parallel, or do not point one way
  Unlike : Type 0
  Unlike = ((abs_of (determinant_of own.direction prev.direction) ≤ᶠ epsilon) ≡ false)
      ⊎ ((0ᶠ <ᶠ dot_of own.direction prev.direction) ≡ false)

  not-close : Within 75 (prev.direction.x ⊖ own.direction.x) → Within 75 (prev.direction.y ⊖ own.direction.y) → Unlike → ⊥
  unfolding Unlike determinant_of dot_of length_squared_of
  not-close w v u =
      let o = O.line-in.direction-in in
      let p = P.line-in.direction-in in
      let c = near-or-small prev.direction.x own.direction.x (within-finite p.x-in) (within-finite o.x-in) w in
      let d = near-or-small prev.direction.y own.direction.y (within-finite p.y-in) (within-finite o.y-in) v in
      elim u [
        | inl t ↦ true≢false (sym (within-le (close-determinant-within _ _ _ _ o.x-in o.y-in p.x-in
            p.y-in c d) epsilon-over (omega arith)) ∙ t)
        | inr t ↦ true≢false (sym (ahead _ _ _ _ o.x-in o.y-in p.x-in p.y-in w v O.band c d) ∙ t)
      ]

  has-length : Unlike → Over 0 (length_squared_of (sub_of prev.direction own.direction))
  unfolding sub_of
  has-length u = go (within-or-apart 75 (prev.direction.x ⊖ own.direction.x) fx)
      (within-or-apart 75 (prev.direction.y ⊖ own.direction.y) fy)
    where
      fx : finite (prev.direction.x ⊖ own.direction.x) ≡ true
      fx = within-finite difference-in.x-in

      fy : finite (prev.direction.y ⊖ own.direction.y) ≡ true
      fy = within-finite difference-in.y-in

      go : Within 75 (prev.direction.x ⊖ own.direction.x) ⊎ Apart 75 (prev.direction.x ⊖ own.direction.x)
          → Within 75 (prev.direction.y ⊖ own.direction.y) ⊎ Apart 75 (prev.direction.y ⊖ own.direction.y)
          → Over 0 (length_squared_of (sub_of prev.direction own.direction))
      go (inr a) d = lower (omega arith) (length-squared-over-x difference-in 1 (square-over 1 a fx (omega arith)))
      go (inl w) (inr a) = lower (omega arith) (length-squared-over-y difference-in 1 (square-over 1 a fy (omega arith)))
      go (inl w) (inl v) = absurd (not-close w v u)

  pub not-parallel : (abs_of (determinant_of own.direction prev.direction) ≤ᶠ epsilon) ≡ false →
      Inside 150 (normalize_of (sub_of prev.direction own.direction))
  unfolding Unlike
  not-parallel t = normalize-inside difference-in (has-length (inl t))

  pub not-one-way : (0ᶠ <ᶠ dot_of own.direction prev.direction) ≡ false →
      Inside 150 (normalize_of (sub_of prev.direction own.direction))
  unfolding Unlike
  not-one-way t = normalize-inside difference-in (has-length (inr t))
