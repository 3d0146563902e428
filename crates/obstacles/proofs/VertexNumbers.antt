-- A list of numbers read by twos: which vertices it holds and how many, which stands in front, and how many a part of
-- it has. Assumes nothing.
use Prim.Native.Nat.{ℕ, zero, suc, ◌+◌, ◌*◌, ◌/◌, ◌≤◌}
use mathlib.Core.Path.{◌≡◌, refl, ap, ◌∙◌}
use mathlib.Core.List.{List, [], ◌∷◌}
use native.Mathlib.Omega.{arith}
use native.Mathlib.Nat.{add-zero}
use native.Mathlib.Numerals.{add-one}
use lib.ListN.{length, get_or, take, drop, length-drop}
use lib.Seq.{length-take-le, get_or-drop}
use lib.Ieee.{Float, nan}
use Rattle.common.specs.Vectors.{vec}
use Rattle.obstacles.specs.Vertices.{vertices_of, vertex_at}
use Rattle.obstacles.specs.ObstacleFaults.{front_of}

pub vertex-nth : (b : List Float) (i k : ℕ) → k ≡ 2 * i → k + 2 ≤ length b → vertex_at (vertices_of b) i
    ≡ vec (get_or b k nan) (get_or b (k + 1) nan)
unfolding vertices_of
vertex-nth [] i k e h = absurd (omega arith)
vertex-nth (x ∷ []) i k e h = absurd (omega arith)
vertex-nth (x ∷ y ∷ r) zero k e h =
    let f : k ≡ 0 = omega arith in
    rw f refl
vertex-nth (x ∷ y ∷ r) (suc i) k e h =
    let f : k ≡ suc (suc (2 * i)) = omega arith in
    let ih = vertex-nth r i (2 * i) refl (omega arith) in
    rw (f, add-one) (rw add-one at ih)

-- the vertex i stands in front of what is left behind those before it
pub front_at : (b : List Float) (i : ℕ) → 2 * i + 2 ≤ length b → vertex_at (vertices_of b) i ≡ front_of (drop (2 * i) b)
front_at b i h = vertex-nth b i (2 * i) refl h ∙ rw (get_or-drop (2 * i) b 0 nan, get_or-drop (2 * i) b 1 nan, add-zero)

pub vertices-many : (b : List Float) → length (vertices_of b) ≡ length b / 2
unfolding vertices_of
vertices-many [] = refl
vertices-many (x ∷ []) = refl
vertices-many (x ∷ y ∷ r) = let h = vertices-many r in omega arith

pub vertices-long : (b : List Float) (n : ℕ) → length b ≡ 2 * n → length (vertices_of b) ≡ n
unfolding vertices_of
vertices-long [] n h = omega arith
vertices-long (x ∷ []) n h = absurd (omega arith)
vertices-long (x ∷ y ∷ r) zero h = absurd (omega arith)
vertices-long (x ∷ y ∷ r) (suc n) h = ap suc (vertices-long r n (omega arith))

-- the numbers of count vertices from the vertex offset on are count vertices
pub part-size : (b : List Float) (offset count : ℕ) → offset + count ≤ length b / 2 →
    length (take (2 * count) (drop (2 * offset) b)) / 2 ≡ count
part-size b offset count h =
    let k : length (take (2 * count) (drop (2 * offset) b)) ≡ 2 * count =
    length-take-le (2 * count) (drop (2 * offset) b) (rw length-drop (omega arith)) in
    rw k (omega arith)
