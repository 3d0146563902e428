-- Bytes put one behind the other. Assumes nothing.
use Prim.Native.Nat.{ℕ, zero, suc, ◌+◌, ◌*◌, ◌≤◌, ◌<◌}
use native.Mathlib.Omega.{arith}
use native.Mathlib.Numerals.{add-one}
use mathlib.Core.Path.{◌≡◌, refl, sym, ap, ◌∙◌}
use mathlib.Core.List.{List, [], ◌∷◌, ◌++◌, append_assoc}
use lib.ListN.{length, take, drop, get_or, length-append, length-drop, drop_of_length-le}
use lib.Seq.{sets, drop-cons, drop-drop, length-take-le}
use lib.Ieee.{Float, nan}
use Rattle.fields.specs.Bytes.{big_endian, each}
use Rattle.fields.proofs.ByteLaws.{length-big-endian}
use Rattle.fields.proofs.StoreLaws.{sets-append}
use Rattle.common.specs.declared.Vec2.{Vec2}
use Rattle.obstacles.specs.Vertices.{vertices_of}
use Rattle.obstacles.proofs.VertexNumbers.{vertices-long}
use Rattle.dodgy_2d.specs.Scenes.{heads_of}
use Rattle.scene_records.specs.declared.Cart.{Cart}
use Rattle.scene_records.specs.SceneBytes.{number_bytes, vector_bytes, cart_bytes, obstacle_bytes, with_vertices}
use Rattle.scene_records.specs.Parts.{size_of}
use Rattle.scene_writer.specs.Writing.{obstacle_from, lent_obstacles}
use Rattle.scene_records.proofs.WrittenParts.{length-number, length-vector, length-each, length-obstacle}

-- a record, so that the lists are found from a proof of it
pub record Puts (l : List ℕ) (at : ℕ) (bytes : List ℕ) (end : ℕ) (m : List ℕ) : Type 0 where
  pub puts : m ≡ sets l at bytes
  pub behind : end ≡ at + length bytes

pub putting : {l : List ℕ} {at : ℕ} {bytes : List ℕ} {m : List ℕ} (n end : ℕ) → length bytes ≡ n → end ≡ at + n →
    m ≡ sets l at bytes → Puts l at bytes end m
putting n end size place e = record { puts = e; behind = rw size place }

infixl 20 ◌then◌
pub ◌then◌ : {l m w : List ℕ} {at mid end : ℕ} {a b : List ℕ} → Puts l at a mid m → Puts m mid b end w → Puts l at (a ++ b) end w
◌then◌ {l} {m} {w} {at} {mid} {end} {a} {b} p q = record {
  puts = rw (sets-append l at a b, ← p.puts, ← p.behind) q.puts;
  behind = rw (length-append a b) (omega (arith, p.behind, q.behind));
}

-- ---- numbers one behind the other

abbrev pub run : List Float → ℕ → ℕ → List ℕ
run v from n = each number_bytes (take n (drop from v))

module _ (v : List Float) (at : ℕ) where
  abbrev left : ℕ → List ℕ
  left k = each number_bytes (drop k v)

  left-cons : (k : ℕ) → k < length v → left k ≡ number_bytes (get_or v k nan) ++ left (k + 1)
  unfolding each
  left-cons k h = rw (add-one, drop-cons v k nan)

  pub numbers-done : (b : List ℕ) (k : ℕ) → length v ≤ k → b ≡ sets b (at + 4 * k) (left k)
  unfolding each
  numbers-done b k h = rw (drop_of_length-le v h) refl

  pub numbers-next : (b c : List ℕ) (k : ℕ) → k < length v → c ≡ sets b (at + 4 * k) (number_bytes (get_or v k nan)) →
      sets b (at + 4 * k) (left k) ≡ sets c (at + 4 * (k + 1)) (left (k + 1))
  numbers-next b c k h e =
      let r : at + 4 * (k + 1) ≡ at + 4 * k + length (number_bytes (get_or v k nan)) =
      omega (arith, length-number (get_or v k nan)) in
      rw (left-cons k h, r, e) (sets-append b (at + 4 * k) (number_bytes (get_or v k nan)) (left (k + 1)))

-- ---- vectors, the cart

pub vector-put : (l m w : List ℕ) (at : ℕ) (v : Vec2) → m ≡ sets l at (number_bytes v.x) →
    w ≡ sets m (at + 4) (number_bytes v.y) → w ≡ sets l at (vector_bytes v)
unfolding vector_bytes
vector-put l m w at v e f =
    let x : Puts l at (number_bytes v.x) (at + 4) m = putting 4 (at + 4) (length-number v.x) refl e in
    let y : Puts m (at + 4) (number_bytes v.y) (at + 8) w = putting 4 (at + 8) (length-number v.y) (omega arith) f in
    (x then y).puts

pub cart-put : (c : Cart) (l p v m h w whole : List ℕ) → p ≡ sets l 3 (vector_bytes c.agent.position) →
    v ≡ sets p 11 (vector_bytes c.agent.velocity) → m ≡ sets v 19 (number_bytes c.margin)
    → h ≡ sets m 23 (number_bytes c.horizon) → w ≡ sets h 27 (vector_bytes c.wish) →
    whole ≡ sets w 35 (number_bytes c.limit) → whole ≡ sets l 3 (cart_bytes c)
unfolding cart_bytes
cart-put c l p v m h w whole e1 e2 e3 e4 e5 e6 =
    let position : Puts l 3 (vector_bytes c.agent.position) 11 p = putting 8 11 (length-vector _) refl e1 in
    let velocity : Puts p 11 (vector_bytes c.agent.velocity) 19 v = putting 8 19 (length-vector _) refl e2 in
    let margin : Puts v 19 (number_bytes c.margin) 23 m = putting 4 23 (length-number _) refl e3 in
    let horizon : Puts m 23 (number_bytes c.horizon) 27 h = putting 4 27 (length-number _) refl e4 in
    let wish : Puts h 27 (vector_bytes c.wish) 35 w = putting 8 35 (length-vector _) refl e5 in
    let limit : Puts w 35 (number_bytes c.limit) 39 whole = putting 4 39 (length-number _) refl e6 in
    (position then velocity then margin then horizon then wish then limit).puts

-- ---- obstacles

-- numbers by twos have the bytes of the vertices
two-by-two : (xs : List Float) (n : ℕ) → length xs ≡ 2 * n → each vector_bytes (vertices_of xs) ≡ each number_bytes xs
unfolding each vector_bytes vertices_of
two-by-two [] n h = refl
two-by-two (x ∷ []) n h = absurd (omega arith)
two-by-two (x ∷ y ∷ xs) zero h = absurd (omega arith)
two-by-two (x ∷ y ∷ xs) (suc n) h =
    rw (two-by-two xs n (omega arith)) (append_assoc (number_bytes x) (number_bytes y) (each number_bytes xs))

-- an obstacle's own vertices are there
module _ (kind count start : ℕ) (xs : List Float) (h : 2 * (start + count) ≤ length xs) where
  own-numbers : length (take (2 * count) (drop (2 * start) xs)) ≡ 2 * count
  own-numbers = length-take-le (2 * count) (drop (2 * start) xs) (rw length-drop (omega arith))

  pub own-size : size_of (obstacle_from kind count (drop (2 * start) xs)) ≡ count
  own-size = vertices-long (take (2 * count) (drop (2 * start) xs)) count own-numbers

  pub own-long : length (obstacle_bytes (obstacle_from kind count (drop (2 * start) xs))) ≡ 2 + 8 * count
  own-long = length-obstacle (obstacle_from kind count (drop (2 * start) xs)) ∙ rw own-size

  pub obstacle-put : (l m n w : List ℕ) (at : ℕ) → m ≡ sets l at (big_endian 1 kind) →
      n ≡ sets m (at + 1) (big_endian 1 count) → w ≡ sets n (at + 2) (run xs (2 * start) (2 * count))
      → w ≡ sets l at (obstacle_bytes (obstacle_from kind count (drop (2 * start) xs)))
  unfolding obstacle_bytes
  obstacle-put l m n w at e f g =
      let vs = take (2 * count) (drop (2 * start) xs) in
      let same : each number_bytes vs ≡ each vector_bytes (vertices_of vs) = sym (two-by-two vs count own-numbers) in
      let long : length (each vector_bytes (vertices_of vs)) ≡ 8 * count =
      length-each vector_bytes 8 length-vector (vertices_of vs) ∙ rw own-size in
      let own : Puts l at (big_endian 1 kind) (at + 1) m = putting 1 (at + 1) (length-big-endian 1 kind) refl e in
      let size : Puts m (at + 1) (big_endian 1 (length (vertices_of vs))) (at + 2) n =
      putting 1 (at + 2) (length-big-endian 1 _) (omega arith) (f
      ∙ ap (λ (k : ℕ). sets m (at + 1) (big_endian 1 k)) (sym own-size)) in
      let all : Puts n (at + 2) (each vector_bytes (vertices_of vs)) (at + 2 + 8 * count) w =
      putting (8 * count) _ long refl (g ∙ ap (sets n (at + 2)) same) in
      (own then size then all).puts

-- the obstacles from the i-th on, behind `total` vertices
module _ (ks cs : List ℕ) (xs : List Float) (i total : ℕ) where
  abbrev pub wall_bytes : ℕ → ℕ → List ℕ
  wall_bytes j t = each obstacle_bytes (lent_obstacles (drop j ks) (drop j cs) (drop (2 * t) xs))

  wall-cons : (count : ℕ) → count ≡ get_or cs i 0 → i < length ks → i < length cs
      → wall_bytes i total ≡ obstacle_bytes (obstacle_from (get_or ks i 0) count (drop (2 * total) xs)) ++ wall_bytes (i + 1)
      (total + count)
  unfolding each with_vertices heads_of
  wall-cons count e h k =
      let f : 2 * (total + count) ≡ 2 * total + 2 * count = omega arith in
      rw (add-one, drop-cons ks i 0 h, drop-cons cs i 0 k, ← e, f, ← drop-drop (2 * count) (2 * total) xs)

  -- where the obstacle j stands, behind t vertices: a record's obstacles begin at its byte 40
  abbrev pub wall_place : ℕ → ℕ → ℕ
  wall_place j t = 40 + 2 * j + 8 * t

  pub wall-next : (b c : List ℕ) (count : ℕ) → count ≡ get_or cs i 0 → i < length ks → i < length cs →
      2 * (total + count) ≤ length xs
      → c ≡ sets b (wall_place i total) (obstacle_bytes (obstacle_from (get_or ks i 0) count (drop (2 * total) xs))) →
      sets b (wall_place i total) (wall_bytes i total)
      ≡ sets c (wall_place (i + 1) (total + count)) (wall_bytes (i + 1) (total + count))
  wall-next b c count e h k fits f =
      let o = obstacle_bytes (obstacle_from (get_or ks i 0) count (drop (2 * total) xs)) in
      let place : wall_place (i + 1) (total + count) ≡ wall_place i total + length o =
      omega (arith, own-long (get_or ks i 0) count total xs fits) in
      rw (wall-cons count e h k, f, place) (sets-append b (wall_place i total) o (wall_bytes (i + 1) (total + count)))

  pub walls-end : (b : List ℕ) (at : ℕ) → length ks ≤ i → b ≡ sets b at (wall_bytes i total)
  unfolding each with_vertices heads_of
  walls-end b at h = rw (drop_of_length-le ks h)
