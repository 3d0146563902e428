-- Choices and conditions: what both branches have, the choice has; what a true `&&` or `||` says of its sides, and they
-- of it. Assumes nothing.
use mathlib.Core.Path.{◌≡◌, refl}
use mathlib.Core.Logic.{◌⊎◌, inl, inr}
use mathlib.Core.Bool.{Bool, true, false, false≢true, ◌&&◌, ◌||◌}
use Rattle.arithmetic.specs.Binary32.{when◌then◌else◌}

-- what both branches have, the choice has
pub if-all : {A : Type 0} (P : A → Type 0) (b : Bool) {x y : A} → P x → P y → P (when b then x else y)
unfolding when◌then◌else◌
if-all P true hx hy = hx
if-all P false hx hy = hy

-- the same, where a branch may use how the test came out
pub if-case : {A : Type 0} (P : A → Type 0) (b : Bool) {x y : A} → (b ≡ true → P x) → (b ≡ false → P y) → P (when b then x else y)
unfolding when◌then◌else◌
if-case P true hx hy = hx refl
if-case P false hx hy = hy refl

pub and_left : (a b : Bool) → (a && b) ≡ true → a ≡ true
and_left true b h = refl
and_left false b h = h

pub and_right : (a b : Bool) → (a && b) ≡ true → b ≡ true
and_right true b h = h
and_right false b h = absurd (false≢true h)

pub or_cases : (a b : Bool) → (a || b) ≡ true → (a ≡ true) ⊎ (b ≡ true)
or_cases true b h = inl refl
or_cases false b h = inr h

pub neither-or : (a b : Bool) → a ≡ false → b ≡ false → (a || b) ≡ false
neither-or true b p q = p
neither-or false b p q = q

pub one-or : (a b : Bool) → (a ≡ true) ⊎ (b ≡ true) → (a || b) ≡ true
one-or true b h = refl
one-or false b (inl h) = absurd (false≢true h)
one-or false b (inr h) = h
