-- A rule before what there is without a fault: it passes, or its number is told. Assumes nothing.
use Prim.Native.Nat.{ℕ}
use mathlib.Core.Path.{◌≡◌, refl, ap, ◌∙◌}
use mathlib.Core.Bool.{Bool, true, false}
use Rattle.arithmetic.specs.Binary32.{when◌then◌else◌}
use Rattle.admission.specs.Faults.{fault, must, unless_fault}

module _ {A : Type 0} (refuse : ℕ → A) (b : Bool) (r : ℕ) (a : A) where
  pub must-unless : unless_fault refuse (must b r) a ≡ (when b then a else refuse r)
  unfolding when◌then◌else◌
  must-unless = go b
    where
      go : (b : Bool) → unless_fault refuse (must b r) a ≡ (when b then a else refuse r)
      go true = refl
      go false = refl

  pub told-unless : (n : ℕ) → fault n ≡ must b r → refuse n ≡ (when b then a else refuse r)
  told-unless n e = ap (λ f. unless_fault refuse f a) e ∙ must-unless
