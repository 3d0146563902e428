-- A list of numbers read by threes: how many origins it holds, and which; and an origin stored there. Assumes nothing.
use Prim.Native.Nat.{ℕ, zero, suc, ◌+◌, ◌*◌, ◌/◌, ◌≤◌, ◌<◌}
use mathlib.Core.Path.{◌≡◌, refl, ap}
use mathlib.Core.List.{List, [], ◌∷◌}
use native.Mathlib.Omega.{arith}
use native.Mathlib.Numerals.{add-one, add-two}
use lib.ListN.{length, get_or, set}
use lib.Seq.{sets}
use borrow.Author.Tests.{le-leb, lt-leb}
use Rattle.arithmetic.specs.Binary32.{when◌then◌else◌}
use Rattle.lines.specs.declared.Origin.{Origin}
use Rattle.lines.specs.Origins.{origin, unknown, origins_of, three_of, origin_stored}

pub origins-long : (b : List ℕ) → length (origins_of b) ≡ length b / 3
unfolding origins_of
origins-long [] = refl
origins-long (x ∷ []) = refl
origins-long (x ∷ y ∷ []) = refl
origins-long (x ∷ y ∷ z ∷ r) = let h = origins-long r in omega arith

pub three-get : (b : List ℕ) (i k : ℕ) → k ≡ 3 * i → k + 3 ≤ length b → get_or (origins_of b) i unknown
    ≡ origin (get_or b k 0) (get_or b (k + 1) 0) (get_or b (k + 2) 0)
unfolding origins_of
three-get [] i k e h = absurd (omega arith)
three-get (x ∷ []) i k e h = absurd (omega arith)
three-get (x ∷ y ∷ []) i k e h = absurd (omega arith)
three-get (x ∷ y ∷ z ∷ r) zero k e h =
    let f : k ≡ 0 = omega arith in
    rw f refl
three-get (x ∷ y ∷ z ∷ r) (suc i) k e h =
    let f : k ≡ suc (suc (suc (3 * i))) = omega arith in
    let ih = three-get r i (3 * i) refl (omega arith) in
    rw (f, add-one, add-two) (rw (add-one, add-two) at ih)

three-set : (b : List ℕ) (i k p q s : ℕ) → k ≡ 3 * i → k + 3 ≤ length b →
    origins_of (set (set (set b k p) (k + 1) q) (k + 2) s) ≡ set (origins_of b) i (origin p q s)
unfolding origins_of
three-set [] i k p q s e h = absurd (omega arith)
three-set (x ∷ []) i k p q s e h = absurd (omega arith)
three-set (x ∷ y ∷ []) i k p q s e h = absurd (omega arith)
three-set (x ∷ y ∷ z ∷ r) zero k p q s e h =
    let f : k ≡ 0 = omega arith in
    rw f refl
three-set (x ∷ y ∷ z ∷ r) (suc i) k p q s e h =
    let f : k ≡ suc (suc (suc (3 * i))) = omega arith in
    let ih = three-set r i (3 * i) p q s refl (omega arith) in
    rw (f, add-one, add-two) (ap (λ (l : List Origin). origin x y z ∷ l) (rw (add-one, add-two) at ih))

module _ (b : List ℕ) (i : ℕ) (o : Origin) where
  pub origin-sets : 3 * i + 3 ≤ length b → origin_stored b i o ≡ sets b (3 * i) (three_of o)
  unfolding origin_stored when◌then◌else◌
  origin-sets h = simp (le-leb (3 * i + 3) (length b) h)

  pub origin-not : length b < 3 * i + 3 → origin_stored b i o ≡ b
  unfolding origin_stored when◌then◌else◌
  origin-not h = simp (lt-leb (3 * i + 3) (length b) h)

  pub stored-origin : 3 * i + 3 ≤ length b → origins_of (origin_stored b i o) ≡ set (origins_of b) i o
  stored-origin h = rw (origin-sets h)
      (rw (add-one, add-two) at (three-set b i (3 * i) o.kind o.place o.vertex refl h))
