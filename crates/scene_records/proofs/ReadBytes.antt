-- Law: a record that is read to a scene is the bytes of that scene. Assumes nothing.
use Prim.Native.Nat.{ℕ, zero, suc, ◌+◌, ◌*◌, ◌≤◌}
use native.Mathlib.Omega.{arith}
use mathlib.Core.Path.{◌≡◌, refl, sym, ap, ◌∙◌}
use mathlib.Core.Bool.{Bool, true, false, not, false≢true}
use mathlib.Core.List.{List, ◌++◌, append-nil}
use lib.Dec.{T}
use lib.ListN.{length, drop, length-drop, length-append}
use lib.Seq.{drop-length}
use lib.Ieee.{Float, nan, inf, fin, binary32, of_bits, to_bits, is_nan, le, lt, eq}
use lib.Ieee.Bits.{to_bits-of_bits}
use Rattle.arithmetic.specs.Binary32.{finite}
use Rattle.arithmetic.specs.Ends.{abs_of}
use Rattle.admission.specs.Faults.{within, inside}
use Rattle.admission.proofs.HeadLaws.{room_within}
use Rattle.common.specs.declared.Vec2.{Vec2}
use Rattle.lines.specs.declared.Line.{Line}
use Rattle.lines.specs.LineFaults.{line_reach}
use Rattle.common.specs.Vectors.{reach}
use Rattle.edges.specs.Edges.{OuterVertex}
use Rattle.obstacles.specs.Doubled.{none_before, on_vertex}
use Rattle.dodgy_2d.specs.declared.Scene.{Scene}
use Rattle.fields.specs.Bytes.{big_endian, each, AllBytes}
use Rattle.fields.specs.Got.{got, many}
use Rattle.fields.proofs.ChainLaws.{then-got, cons-got, got_same}
use Rattle.fields.proofs.Spans.{Span, join, word-span, many-span}
use Rattle.scene_records.specs.declared.Cart.{Cart}
use Rattle.scene_records.specs.Steps.{number, vector}
use Rattle.scene_records.specs.Parts.{cart, vertex, vertices_at, Obstacle, size_of, numbers_in, obstacle, obstacles, neighbour, neighbours}
use Rattle.scene_records.specs.Records.{scene_in_version1}
use Rattle.scene_records.specs.SceneBytes.{number_bytes, vector_bytes, cart_bytes, obstacle_bytes, line_bytes, body_bytes, record_bytes, scene_bytes}
use Rattle.scene_records.proofs.Taken.{number-taken, vector-taken, cart-taken, vertex-taken, obstacle-taken, line_taken, fields-taken, scene-taken-version-1}
use Rattle.scene_records.proofs.WallLaws.{length-coordinates}
use Rattle.scene_records.proofs.SceneParts.{obstacles-back, neighbours-back}

-- ---- a NaN passes no rule, so the pattern of a number that passed is its own

le-nan : (x : Float) → le x nan ≡ false
unfolding le lt eq
le-nan nan = refl
le-nan (inf s) = refl
le-nan (fin s m e) = refl

nan-le : (x : Float) → le nan x ≡ false
unfolding le lt eq
nan-le nan = refl
nan-le (inf s) = refl
nan-le (fin s m e) = refl

within-nan : (bound : Float) → within bound nan ≡ false
unfolding within abs_of
within-nan bound = nan-le bound

inside-nan : (low high : Float) → inside low high nan ≡ false
unfolding inside
inside-nan low high = rw (le-nan low)

finite-nan : finite nan ≡ false
unfolding finite
finite-nan = refl

passed : (passes : Float → Bool) → passes nan ≡ false → (x : Float) → passes x ≡ true → T (not (is_nan x))
unfolding is_nan
passed passes none nan h = absurd (false≢true (sym none ∙ h))
passed passes none (inf s) h = tt
passed passes none (fin s m e) h = tt

-- the vertices of all obstacles together are at most 192
pub obstacles-total : (s : List ℕ) (n total at : ℕ) (os : List Obstacle) (m : ℕ) → total ≤ 192 →
    obstacles s n total at ≡ got os m → 2 * total + length (each numbers_in os) ≤ 384
unfolding obstacles many each
obstacles-total s zero total at os m t e = rw (← (got_same e).0) (omega arith)
obstacles-total s (suc n) total at os m t e =
    then-got (obstacle s total at) _ e λ o a p r.
    cons-got o (obstacles s n (total + size_of o) a) r λ rest q u.
    obstacle-taken s total at o a p λ b d read-k known read-n room some read-vs pair.
    let fits : total + size_of o ≤ 192 = (room_within total (size_of o) room).1 in
    let ih : 2 * (total + size_of o) + length (each numbers_in rest) ≤ 384 =
    obstacles-total s n (total + size_of o) a rest m fits q in
    rw (u, length-append (numbers_in o) (each numbers_in rest), length-coordinates o.vertices) (omega arith)

-- ---- the bytes that a step read

module _ (s : List ℕ) (h : AllBytes s) where
  number-span : (passes : Float → Bool) → passes nan ≡ false → (at : ℕ) (x : Float) (m : ℕ) →
      number passes s at ≡ got x m → Span s at (number_bytes x) m
  unfolding number_bytes
  number-span passes none at x m e =
      number-taken s passes at x m e λ b p v t.
      let w = word-span s h 4 at b m p in
      let same : to_bits binary32 x ≡ b = rw v at (to_bits-of_bits binary32 b w.0
      (passed passes none (of_bits binary32 b) (rw (← v) at t))) in
      rw same w.1

  vector-span : (passes : Float → Bool) → passes nan ≡ false → (at : ℕ) (v : Vec2) (m : ℕ) →
      vector passes s at ≡ got v m → Span s at (vector_bytes v) m
  unfolding vector_bytes
  vector-span passes none at v m e = vector-taken s passes at v m e λ a p q.
      join (number-span passes none at v.x a p) (number-span passes none a v.y m q)

  pub cart-span : (at : ℕ) (x : Cart) (m : ℕ) → cart s at ≡ got x m → Span s at (cart_bytes x) m
  unfolding cart_bytes
  cart-span at x m z =
      cart-taken s at x m z λ a b d e f p v g t w l read-p read-v read-g read-t read-w read-l same.
      rw (← same)
      (join (join (join (join (join (vector-span _ (within-nan reach) at p a read-p)
      (vector-span _ (within-nan reach) a v b read-v)) (number-span _ (inside-nan _ _) b g d read-g))
      (number-span _ (inside-nan _ _) d t e read-t)) (vector-span _ (within-nan reach) e w f read-w))
      (number-span _ (inside-nan _ _) f l m read-l))

  vertex-span : (before : OuterVertex) (at : ℕ) (v : Vec2) (m : ℕ) → vertex s before at ≡ got v m → Span s at (vector_bytes v) m
  vertex-span before at v m e = vertex-taken s before at v m e λ p t. vector-span (within reach) (within-nan reach) at v m p

  pub obstacle-span : (total at : ℕ) (o : Obstacle) (m : ℕ) → obstacle s total at ≡ got o m → Span s at (obstacle_bytes o) m
  unfolding obstacle_bytes vertices_at
  obstacle-span total at o m e =
      obstacle-taken s total at o m e λ a b read-k known read-n room some read-vs pair.
      join (join (word-span s h 1 at o.kind a read-k).1 (word-span s h 1 a (length o.vertices) b read-n).1)
      (many-span s (vertex s) on_vertex vector_bytes vertex-span (length o.vertices) none_before b o.vertices m read-vs)

  pub line-span : (at : ℕ) (l : Line) (m : ℕ) → neighbour s at ≡ got l m → Span s at (line_bytes l) m
  unfolding line_bytes
  line-span at l m e = line_taken s at l m e λ a read-p read-d band.
      join (vector-span (within line_reach) (within-nan line_reach) at l.point a read-p)
      (vector-span finite finite-nan a l.direction m read-d)

  pub accepted-is-bytes-version-1 : (c : Scene) (m : ℕ) → scene_in_version1 s ≡ got c m → s ≡ scene_bytes c
  unfolding record_bytes body_bytes obstacles neighbours
  accepted-is-bytes-version-1 c m z =
      scene-taken-version-1 s c m z λ n read-n few-n right z'.
      fields-taken s 2 c m z' λ a b d e f x os ls read-version read-cart read-os few-os list-os read-ls few-ls list-ls end same.
      let start : Span s 2 (big_endian 1 1 ++ cart_bytes x) b =
      join (word-span s h 1 2 1 a read-version).1 (cart-span a x b read-cart) in
      let walls : Span s 2 _ e = join (join start (word-span s h 1 b (length os) d read-os).1)
      (many-span s (obstacle s) (λ t o. t + size_of o) obstacle_bytes obstacle-span (length os) 0 d os e list-os) in
      let body : Span s 2 (body_bytes x os ls) m =
      join (join walls (word-span s h 1 e (length ls) f read-ls).1) (many-span s (λ (u : Unit {0}). neighbour s)
      (λ u l. u) line_bytes (λ u. line-span) (length ls) tt f ls m list-ls) in
      let rest : drop 2 s ≡ body_bytes x os ls = body.stands ∙ rw (end, drop-length s) (append-nil (body_bytes x os ls)) in
      let size : length (body_bytes x os ls) ≡ n = ap length (sym rest) ∙ length-drop 2 s ∙ sym right in
      let all : s ≡ record_bytes x os ls = rw size ((word-span s h 2 0 n 2 read-n).1.stands
      ∙ ap (λ (r : List ℕ). big_endian 2 n ++ r) rest) in
      let fits : length (each numbers_in os) ≤ 384 =
      (let most = obstacles-total s (length os) 0 d os e (omega arith) list-os in omega arith) in
      rw (same, obstacles-back x os (length ls) ls few-os fits, neighbours-back x (length os) os ls few-ls) all
