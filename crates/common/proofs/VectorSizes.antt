-- The size of a vector is that of both its components, in smallest values (arithmetic's Magnitude/Size), and what each
-- vector operation makes of it. Each proof cites the law of the operation on numbers, for each component. Assumes
-- nothing.
use mathlib.Core.Path.{◌≡◌, refl}
use Prim.Native.Nat.{ℕ, ◌+◌, ◌-◌, ◌≤◌, ◌<◌}
use native.Mathlib.Omega.{arith}
use mathlib.Core.Bool.{true, ◌&&◌}
use lib.Dec.{T}
use lib.Ieee.{Float, binary32, fits}
use lib.Ieee.Fits.{add-fits}
use Rattle.arithmetic.specs.Binary32.{◌⊗◌, finite}
use Rattle.arithmetic.proofs.Magnitude.Size.{Within, Over, wider, within-finite}
use Rattle.arithmetic.proofs.Magnitude.Operations.{neg-within, add-within, sub_within, mul-within, square-nonneg, add-over-nonneg, add-nonneg-over}
use Rattle.common.specs.declared.Vec2.{Vec2}
use Rattle.common.specs.Vectors.{add_of, sub_of, mul_of, dot_of, perp_of, length_squared_of, determinant_of}

-- both components are at most 2 ^ k smallest values, of either sign
pub record Inside (k : ℕ) (v : Vec2) : Type 0 where
  pub x-in : Within k v.x
  pub y-in : Within k v.y

pub roomier : {j k : ℕ} {v : Vec2} → j ≤ k → Inside j v → Inside k v
roomier l h = record { x-in = wider l h.x-in; y-in = wider l h.y-in }

pub inside-finite : {k : ℕ} {v : Vec2} → Inside k v → (finite v.x && finite v.y) ≡ true
inside-finite h = rw (within-finite h.x-in, within-finite h.y-in) refl

pub add-inside : {j k : ℕ} {a b : Vec2} (l : ℕ) → Inside j a → Inside k b → (j < l) × (k < l) × (l ≤ 276) → Inside l (add_of a b)
unfolding add_of
add-inside l h g c = record { x-in = add-within l h.x-in g.x-in c; y-in = add-within l h.y-in g.y-in c }

pub sub-inside : {j k : ℕ} {a b : Vec2} (l : ℕ) → Inside j a → Inside k b → (j < l) × (k < l) × (l ≤ 276) → Inside l (sub_of a b)
unfolding sub_of
sub-inside l h g c = record { x-in = sub_within l h.x-in g.x-in c; y-in = sub_within l h.y-in g.y-in c }

pub mul-inside : {j k : ℕ} {a : Vec2} {t : Float} (l : ℕ) → Inside j a → Within k t → (j + k ≤ l + 149) × (l ≤ 276) →
    Inside l (mul_of a t)
unfolding mul_of
mul-inside l h g c = record { x-in = mul-within l h.x-in g c; y-in = mul-within l h.y-in g c }

pub perp-inside : {k : ℕ} {a : Vec2} → Inside k a → Inside k (perp_of a)
unfolding perp_of
perp-inside h = record { x-in = neg-within h.y-in; y-in = h.x-in }

-- two products, added or subtracted
pub dot-within : {j k : ℕ} {a b : Vec2} (l : ℕ) → Inside j a → Inside k b → (j + k < l + 149) × (0 < l) × (l ≤ 276) →
    Within l (dot_of a b)
unfolding dot_of
dot-within l h g c = add-within l (mul-within (l - 1) h.x-in g.x-in (omega arith))
    (mul-within (l - 1) h.y-in g.y-in (omega arith)) (omega arith)

pub determinant-within : {j k : ℕ} {a b : Vec2} (l : ℕ) → Inside j a → Inside k b → (j + k < l + 149) × (0 < l)
    × (l ≤ 276) → Within l (determinant_of a b)
unfolding determinant_of
determinant-within l h g c = sub_within l (mul-within (l - 1) h.x-in g.y-in (omega arith))
    (mul-within (l - 1) h.y-in g.x-in (omega arith)) (omega arith)

-- ---- a squared length: written in the one way, and at least the square of either component

pub length-squared-fits : (v : Vec2) → T (fits binary32 (length_squared_of v))
unfolding length_squared_of dot_of
length-squared-fits v = add-fits binary32 (v.x ⊗ v.x) (v.y ⊗ v.y)

pub length-squared-over-x : {k : ℕ} {v : Vec2} → Inside k v → (l : ℕ) → Over l (v.x ⊗ v.x) → Over l (length_squared_of v)
unfolding length_squared_of dot_of
length-squared-over-x h l o = add-over-nonneg o (square-nonneg _ (within-finite h.y-in))

pub length-squared-over-y : {k : ℕ} {v : Vec2} → Inside k v → (l : ℕ) → Over l (v.y ⊗ v.y) → Over l (length_squared_of v)
unfolding length_squared_of dot_of
length-squared-over-y h l o = add-nonneg-over (square-nonneg _ (within-finite h.x-in)) o
