-- Obstacles that are read one behind the other and stored: what a loop has stored and what is left make up the whole;
-- and an obstacle's closing pair is the one found among the vertices stored. Assumes nothing.
use Prim.Native.Nat.{ℕ, suc, ◌+◌, ◌-◌, ◌*◌, ◌≤◌, ◌<◌}
use native.Mathlib.Omega.{arith}
use native.Mathlib.Numerals.{add-one}
use mathlib.Core.Path.{◌≡◌, refl, sym, ap, ◌∙◌}
use mathlib.Core.List.{List, [], ◌∷◌, ◌++◌, append_assoc}
use lib.ListN.{length, take, drop, set}
use lib.Seq.{sets, sets-eq, take_at, drop_at, length-take-le}
use lib.Ieee.{Float}
use Rattle.std.specs.Prelude.{Result}
use Rattle.admission.specs.declared.Head.{Head}
use Rattle.admission.specs.declared.refusal.Refusal.{Refusal}
use Rattle.admission.specs.Faults.{fine, fault, must, within}
use Rattle.common.specs.declared.Vec2.{Vec2}
use Rattle.common.specs.Vectors.{reach}
use Rattle.edges.specs.Edges.{OuterVertex}
use Rattle.obstacles.specs.Vertices.{vertices_of}
use Rattle.obstacles.specs.Doubled.{follows, none_before, on_vertex, closes}
use Rattle.fields.specs.Bytes.{each}
use Rattle.fields.specs.Got.{Got, refused, got, then, guard, many}
use Rattle.fields.proofs.ChainLaws.{apart, got_same, then-got, guard-got, many-length}
use Rattle.fields.proofs.StoreLaws.{sets-append}
use Rattle.scene_records.specs.Steps.{read_of, vector}
use Rattle.scene_records.specs.Parts.{head, vertex, vertices_at, outline, Obstacle, numbers_in, obstacle, obstacles, stored, coordinates, Walls, walls, stored_walls}
use Rattle.scene_records.proofs.Chains.{guard-refused, guard-passed}

-- ---- vertices

pub length-coordinates : (vs : List Vec2) → length (each coordinates vs) ≡ 2 * length vs
unfolding each
length-coordinates [] = refl
length-coordinates (v ∷ vs) = let h = length-coordinates vs in omega arith

pub vertices-back : (vs : List Vec2) → vertices_of (each coordinates vs) ≡ vs
unfolding vertices_of each
vertices-back [] = refl
vertices-back (v ∷ vs) = ap (λ (l : List Vec2). v ∷ l) (vertices-back vs)

-- A vertex is what is read of it as two numbers in range, where it is not the one before it again; else it is refused
-- with 14, and a refusal of the numbers stays.
pub vertex-read : (s : List ℕ) (before : OuterVertex) (at : ℕ) (read : Result (Vec2 × ℕ) Refusal) →
    read_of read ≡ vector (within reach) s at →
    then (read_of read) (λ v a. guard (follows before v) 14 (got v a)) ≡ vertex s before at
unfolding vertex
vertex-read s before at read e = rw e refl

-- as many as were asked for
vertices-count : (s : List ℕ) (n at : ℕ) (vs : List Vec2) (m : ℕ) → vertices_at s none_before n at ≡ got vs m →
    length vs ≡ n
unfolding vertices_at
vertices-count s n at vs m e = many-length (vertex s) on_vertex n none_before at vs m e

outline-count : (s : List ℕ) (h : Head) (at : ℕ) (vs : List Vec2) (m : ℕ) → outline s h at ≡ got vs m → length vs ≡ h.count
unfolding outline
outline-count s h at vs m e =
    then-got (vertices_at s none_before h.count at) _ e λ ws b p r.
    guard-got (closes h.kind ws) 14 _ r λ t q.
    ap length (sym (got_same q).0) ∙ vertices-count s h.count at ws b p

-- vertices that were stored are found where they stand
stored-found : (xs : List Float) (start n : ℕ) (vs : List Vec2) → 2 * (start + n) ≤ length xs → length vs ≡ n →
    vertices_of (take (2 * n) (drop (2 * start) (sets xs (2 * start) (each coordinates vs)))) ≡ vs
stored-found xs start n vs room l =
    let size : length (each coordinates vs) ≡ 2 * n = length-coordinates vs ∙ ap (λ (k : ℕ). 2 * k) l in
    let there : length (take (2 * start) xs) ≡ 2 * start = length-take-le (2 * start) xs (omega arith) in
    rw (
      sets-eq (each coordinates vs) xs (2 * start) (omega arith),
      append_assoc (take (2 * start) xs) (each coordinates vs) (drop (2 * start + length (each coordinates vs)) xs),
      drop_at (take (2 * start) xs) (each coordinates vs ++ drop (2 * start + length (each coordinates vs)) xs) (2 * start) there,
      take_at (each coordinates vs) (drop (2 * start + length (each coordinates vs)) xs) (2 * n) size,
    )
    (vertices-back vs)

-- what was stored is what was read
stored-got : {A : Type 0} (numbers : A → List Float) (xs xs' : List Float) (place b : ℕ) (g : Got (List A)) → got xs' b
    ≡ stored numbers xs place g → {C : Type 0} → ((l : List A) → g ≡ got l b → xs' ≡ sets xs place (each numbers l) → C) → C
unfolding stored
stored-got numbers xs xs' place b (refused r) e next = apart r xs' b (sym e)
stored-got numbers xs xs' place b (got l m) e next = next l (ap (λ (k : ℕ). got l k) (sym (got_same e).1)) (got_same e).0

stored-fault : {A : Type 0} (numbers : A → List Float) (xs : List Float) (place r : ℕ) (g : Got (List A)) → refused r
    ≡ stored numbers xs place g → g ≡ refused r
unfolding stored
stored-fault numbers xs place r (refused n) e = ap refused (let z : n ≡ r = cc in z)
stored-fault numbers xs place r (got l m) e = apart r (sets xs place (each numbers l)) m e

-- behind the last vertex the code holds the closing pair that it finds among those stored to its rule
module _ (s : List ℕ) (xs : List Float) (h : Head) (start at : ℕ) where
  abbrev found : List Float → List Vec2
  found l = vertices_of (take (2 * h.count) (drop (2 * start) l))

  pub outline-refused : (r : ℕ) → refused r ≡ stored coordinates xs (2 * start) (vertices_at s none_before h.count at) →
      refused r ≡ stored coordinates xs (2 * start) (outline s h at)
  unfolding outline stored
  outline-refused r e = rw (stored-fault coordinates xs (2 * start) r _ e) refl

  module _ (xs' : List Float) (b : ℕ) (room : 2 * (start + h.count) ≤ length xs)
      (read : got xs' b ≡ stored coordinates xs (2 * start) (vertices_at s none_before h.count at)) where
    pub outline-doubled : (r : ℕ) → fault r ≡ must (closes h.kind (found xs')) 14 →
        refused r ≡ stored coordinates xs (2 * start) (outline s h at)
    unfolding outline stored
    outline-doubled r e = stored-got coordinates xs xs' (2 * start) b _ read λ vs p put.
        let own : found xs' ≡ vs = rw put (stored-found xs start h.count vs room (vertices-count s h.count at vs b p)) in
        let doubled : fault r ≡ must (closes h.kind vs) 14 = rw own at e in
        rw (p, guard-refused (closes h.kind vs) 14 (got vs b) r doubled) refl

    pub outline-stored : fine ≡ must (closes h.kind (found xs')) 14 →
        got xs' b ≡ stored coordinates xs (2 * start) (outline s h at)
    unfolding outline stored
    outline-stored e = stored-got coordinates xs xs' (2 * start) b _ read λ vs p put.
        let own : found xs' ≡ vs = rw put (stored-found xs start h.count vs room (vertices-count s h.count at vs b p)) in
        let single : fine ≡ must (closes h.kind vs) 14 = rw own at e in
        rw (p, guard-passed (closes h.kind vs) 14 (got vs b) single, put) refl

-- ---- the loop

module _ (s : List ℕ) where
  pub walls-done : (w : Walls) (total n i at : ℕ) → n ≤ i → got w at ≡ stored_walls w i total (obstacles s (n - i) total at)
  unfolding stored_walls obstacles many each
  walls-done w total n i at h = let e : n - i ≡ 0 = omega arith in rw e refl

  module _ (ks cs : List ℕ) (xs : List Float) (i total k : ℕ) (vs : List Vec2) where
    -- the obstacle that was read stands in front of those behind it
    behind : (g : Got (List Obstacle)) →
        stored_walls (walls ks cs xs) i total (then g λ os m. got (record { kind = k; vertices = vs } ∷ os) m)
        ≡ stored_walls (walls (set ks i k) (set cs i (length vs)) (sets xs (2 * total) (each coordinates vs))) (i + 1)
        (total + length vs) g
    unfolding stored_walls each
    behind (refused r) = refl
    behind (got os m) =
        let e : 2 * total + length (each coordinates vs) ≡ 2 * (total + length vs) =
        (let h = length-coordinates vs in omega arith) in
        rw (add-one, ← e, sets-append xs (2 * total) (each coordinates vs) (each numbers_in os))

  module _ (ks cs : List ℕ) (xs : List Float) (i total n at : ℕ) (h : i < n) where
    more : n - i ≡ suc (n - (i + 1))
    more = omega arith

    abbrev left : Got Walls
    left = stored_walls (walls ks cs xs) i total (obstacles s (n - i) total at)

    pub head-refused : (r : ℕ) → refused r ≡ head s total at → left ≡ refused r
    unfolding obstacles many obstacle stored_walls
    head-refused r e = rw (more, ← e) refl

    module _ (x : Head) (a : ℕ) (read : got x a ≡ head s total at) where
      pub wall-refused : (r : ℕ) → refused r ≡ stored coordinates xs (2 * total) (outline s x a) → left ≡ refused r
      unfolding obstacles many obstacle stored_walls
      wall-refused r e = rw (more, ← read, stored-fault coordinates xs (2 * total) r _ e) refl

      pub walls-next : (xs' : List Float) (b : ℕ) → got xs' b ≡ stored coordinates xs (2 * total) (outline s x a) →
          left ≡ stored_walls (walls (set ks i x.kind) (set cs i x.count) xs') (i + 1) (total + x.count)
          (obstacles s (n - (i + 1)) (total + x.count) b)
      unfolding obstacles many obstacle
      walls-next xs' b e = stored-got coordinates xs xs' (2 * total) b _ e λ vs p put.
          let l : length vs ≡ x.count = outline-count s x a vs b p in
          rw (more, ← read, p, put, ← l) (behind ks cs xs i total x.kind vs (obstacles s (n - (i + 1)) (total + length vs) b))
