-- Law: the bytes of admitted parts are read back to those parts. Assumes nothing.
use Prim.Native.Nat.{ℕ, ◌+◌, ◌-◌, ◌*◌, ◌^◌, ◌≤◌, ◌<◌}
use native.Mathlib.Omega.{arith}
use native.Mathlib.Nat.{mul-suc, mul-zero}
use mathlib.Core.Path.{◌≡◌, refl, sym, ap, ◌∙◌}
use mathlib.Core.Bool.{Bool, true, not}
use mathlib.Core.Logic.{⊎_elim}
use mathlib.Core.List.{List, [], ◌∷◌, ◌++◌, append_assoc, append-nil}
use lib.Dec.{eqb, lit<}
use lib.ListN.{length, drop, length-drop, length-append}
use lib.Ieee.{Float, binary32, to_bits, fits}
use lib.Ieee.Bits.{of_bits-to_bits, to_bits-lt}
use borrow.Author.Tests.{eqb-true, le-leb, eq-eqb}
use Rattle.arithmetic.specs.Binary32.{0ᶠ, finite}
use Rattle.arithmetic.proofs.Choice.{or_cases}
use Rattle.admission.specs.Faults.{within, inside}
use Rattle.admission.specs.Heads.{is_kind, room_for, is_empty_open}
use Rattle.admission.proofs.HeadLaws.{room_within}
use Rattle.common.specs.declared.Vec2.{Vec2}
use Rattle.common.specs.Vectors.{reach, longest, length_squared_of}
use Rattle.lines.specs.declared.Line.{Line}
use Rattle.lines.specs.LineFaults.{line_reach, band_low, band_high}
use Rattle.edges.specs.Edges.{OuterVertex, shortest_horizon, longest_horizon}
use Rattle.obstacles.specs.Doubled.{follows, none_before, on_vertex, closes}
use Rattle.fields.specs.Bytes.{big_endian, each}
use Rattle.fields.specs.Got.{got, word}
use Rattle.fields.proofs.ByteLaws.{length-big-endian}
use Rattle.fields.proofs.Backs.{Back, taking, word_back, Every, many-back}
use Rattle.scene_records.specs.declared.Cart.{Cart}
use Rattle.scene_records.specs.Steps.{number, vector, version, count, ended}
use Rattle.scene_records.specs.Parts.{cart, head, vertex, vertices_at, outline, Obstacle, size_of, obstacle, obstacles, neighbour, neighbours}
use Rattle.scene_records.specs.Records.{scene_of, fields_in, longest_rest, announced, scene_in_version1}
use Rattle.scene_records.specs.SceneBytes.{number_bytes, vector_bytes, cart_bytes, obstacle_bytes, line_bytes, body_bytes, record_bytes}

-- ---- what is admitted

-- an f32 that passes its rule
pub record Good (passes : Float → Bool) (x : Float) : Type 0 where
  pub fit : fits binary32 x ≡ true
  pub pass : passes x ≡ true

pub record GoodVector (passes : Float → Bool) (v : Vec2) : Type 0 where
  pub x : Good passes v.x
  pub y : Good passes v.y

pub record GoodCart (c : Cart) : Type 0 where
  pub position : GoodVector (within reach) c.agent.position
  pub velocity : GoodVector (within reach) c.agent.velocity
  pub margin : Good (inside 0ᶠ longest) c.margin
  pub horizon : Good (inside shortest_horizon longest_horizon) c.horizon
  pub wish : GoodVector (within reach) c.wish
  pub limit : Good (inside 0ᶠ longest) c.limit

pub record GoodVertex (before : OuterVertex) (v : Vec2) : Type 0 where
  pub vector : GoodVector (within reach) v
  pub apart : follows before v ≡ true

pub record GoodObstacle (total : ℕ) (o : Obstacle) : Type 0 where
  pub kind : is_kind o.kind ≡ true
  pub room : room_for total (size_of o) ≡ true
  pub some : not (is_empty_open o.kind (size_of o)) ≡ true
  pub vertices : Every GoodVertex on_vertex none_before o.vertices
  pub closed : closes o.kind o.vertices ≡ true

pub record GoodLine (l : Line) : Type 0 where
  pub point : GoodVector (within line_reach) l.point
  pub direction : GoodVector finite l.direction
  pub band : inside band_low band_high (length_squared_of l.direction) ≡ true

abbrev pub on_total : ℕ → Obstacle → ℕ
on_total t o = t + size_of o

pub record GoodParts (x : Cart) (os : List Obstacle) (ls : List Line) : Type 0 where
  pub cart : GoodCart x
  pub few : length os ≤ 16
  pub obstacles : Every GoodObstacle on_total 0 os
  pub fewer : length ls ≤ 64
  pub lines : Every (λ (u : Unit {0}). GoodLine) (λ u l. u) tt ls

-- a kind fits a byte
kind-small : (k : ℕ) → is_kind k ≡ true → k < 256 ^ 1
unfolding is_kind
kind-small k h = ⊎_elim (λ e. (let z : k ≡ 1 = eqb-true k 1 e in omega arith)) (λ e. (let z : k ≡ 2 =
    eqb-true k 2 e in omega arith)) (or_cases (eqb k 1) (eqb k 2) h)

-- ---- reading what stands there

module _ (s : List ℕ) where
  number-back : (passes : Float → Bool) (at : ℕ) (x : Float) (r : List ℕ) → Good passes x →
      drop at s ≡ number_bytes x ++ r → Back s (number passes s at) x r
  unfolding number number_bytes
  number-back passes at x r ok e =
      taking (word_back s 4 at (to_bits binary32 x) r (lit< tt) (to_bits-lt binary32 x (rw ok.fit tt)) e) λ a g i l.
      record { place = a; gives = rw (g, of_bits-to_bits binary32 x (rw ok.fit tt), ok.pass); bound = i; left = l }

  vector-back : (passes : Float → Bool) (at : ℕ) (v : Vec2) (r : List ℕ) → GoodVector passes v →
      drop at s ≡ vector_bytes v ++ r → Back s (vector passes s at) v r
  unfolding vector vector_bytes
  vector-back passes at v r ok e =
      taking (number-back passes at v.x _ ok.x (rw append_assoc at e)) λ a g i l.
      taking (number-back passes a v.y r ok.y l) λ b h j k.
      record { place = b; gives = rw (g, h); bound = j; left = k }

  pub cart-back : (at : ℕ) (x : Cart) (r : List ℕ) → GoodCart x → drop at s ≡ cart_bytes x ++ r → Back s (cart s at) x r
  unfolding cart cart_bytes
  cart-back at x r ok e =
      taking (vector-back _ at x.agent.position _ ok.position (simp append_assoc at e)) λ p1 g1 i1 l1.
      taking (vector-back _ p1 x.agent.velocity _ ok.velocity l1) λ p2 g2 i2 l2.
      taking (number-back _ p2 x.margin _ ok.margin l2) λ p3 g3 i3 l3.
      taking (number-back _ p3 x.horizon _ ok.horizon l3) λ p4 g4 i4 l4.
      taking (vector-back _ p4 x.wish _ ok.wish l4) λ p5 g5 i5 l5.
      taking (number-back _ p5 x.limit r ok.limit l5) λ p6 g6 i6 l6.
      record { place = p6; gives = rw (g1, g2, g3, g4, g5, g6); bound = i6; left = l6 }

  pub line-back : (at : ℕ) (l : Line) (r : List ℕ) → GoodLine l → drop at s ≡ line_bytes l ++ r → Back s (neighbour s at) l r
  unfolding neighbour line_bytes
  line-back at l r ok e =
      taking (vector-back _ at l.point _ ok.point (rw append_assoc at e)) λ p1 g1 i1 l1.
      taking (vector-back _ p1 l.direction r ok.direction l1) λ p2 g2 i2 l2.
      record { place = p2; gives = rw (g1, g2, ok.band); bound = i2; left = l2 }

  vertex-back : (before : OuterVertex) (at : ℕ) (v : Vec2) (r : List ℕ) → GoodVertex before v →
      drop at s ≡ vector_bytes v ++ r → Back s (vertex s before at) v r
  unfolding vertex
  vertex-back before at v r ok e =
      taking (vector-back (within reach) at v r ok.vector e) λ a g i l.
      record { place = a; gives = rw (g, ok.apart); bound = i; left = l }

  pub obstacle-back : (total at : ℕ) (o : Obstacle) (r : List ℕ) → GoodObstacle total o →
      drop at s ≡ obstacle_bytes o ++ r → Back s (obstacle s total at) o r
  unfolding obstacle_bytes vertices_at outline obstacle head
  obstacle-back total at o r ok e =
      let small = (room_within total (size_of o) ok.room).0 in
      taking (word_back s 1 at o.kind _ (lit< tt) (kind-small o.kind ok.kind) (simp append_assoc at e)) λ p1 g1 i1 l1.
      taking (word_back s 1 p1 (size_of o) _ (lit< tt) (omega arith) l1) λ p2 g2 i2 l2.
      taking (many-back s (vertex s) on_vertex vector_bytes GoodVertex vertex-back o.vertices none_before p2 r i2
      ok.vertices l2) λ p3 g3 i3 l3.
      record { place = p3; gives = rw (g1, ok.kind, g2, ok.room, ok.some, g3, ok.closed); bound = i3; left = l3 }

  module _ (x : Cart) (os : List Obstacle) (ls : List Line) (ok : GoodParts x os ls) where
    fields_give : (at a b d e f g : ℕ) → word 1 s at ≡ got 1 a → cart s a ≡ got x b → word 1 s b ≡ got (length os) d →
        obstacles s (length os) 0 d ≡ got os e
        → word 1 s e ≡ got (length ls) f → neighbours s (length ls) f ≡ got ls g → g ≡ length s →
        fields_in s at ≡ got (scene_of x (length os) os (length ls) ls) g
    unfolding fields_in version count ended
    fields_give at a b d e f g e1 e2 e3 e4 e5 e6 e7 =
        rw (e1, e2, e3, le-leb _ 16 ok.few, e4, e5, le-leb _ 64 ok.fewer, e6, eq-eqb g (length s) e7)

    fields_back : (at : ℕ) → drop at s ≡ body_bytes x os ls →
        fields_in s at ≡ got (scene_of x (length os) os (length ls) ls) (length s)
    unfolding body_bytes obstacles neighbours
    fields_back at e =
        taking (word_back s 1 at 1 _ (lit< tt) (lit< tt) (simp append_assoc at e)) λ p1 g1 i1 l1.
        taking (cart-back p1 x _ ok.cart l1) λ p2 g2 i2 l2.
        taking (word_back s 1 p2 (length os) _ (lit< tt) (omega (arith, ok.few)) l2) λ p3 g3 i3 l3.
        taking (many-back s (obstacle s) on_total obstacle_bytes GoodObstacle obstacle-back os 0 p3 _ i3
        ok.obstacles l3) λ p4 g4 i4 l4.
        taking (word_back s 1 p4 (length ls) _ (lit< tt) (omega (arith, ok.fewer)) l4) λ p5 g5 i5 l5.
        taking (many-back s (λ (u : Unit {0}). neighbour s) (λ u l. u) line_bytes _
        (λ u at l r. line-back at l r) ls tt p5 [] i5 ok.lines (l5 ∙ sym (append-nil _))) λ p6 g6 i6 l6.
        let end : p6 ≡ length s = (let z : length s - p6 ≡ 0 = sym (length-drop p6 s) ∙ ap length l6 in omega arith) in
        rw (← end) (fields_give at p1 p2 p3 p4 p5 p6 g1 g2 g3 g4 g5 g6 end)

-- ---- how long a record is

pub length-number : (x : Float) → length (number_bytes x) ≡ 4
unfolding number_bytes
length-number x = length-big-endian 4 (to_bits binary32 x)

pub length-vector : (v : Vec2) → length (vector_bytes v) ≡ 8
unfolding vector_bytes
length-vector v = length-append (number_bytes v.x) (number_bytes v.y) ∙ rw (length-number v.x, length-number v.y)

-- things of k bytes each
pub length-each : {A : Type 0} (bytes : A → List ℕ) (k : ℕ) → ((a : A) → length (bytes a) ≡ k) → (l : List A) →
    length (each bytes l) ≡ k * length l
unfolding each
length-each bytes k h [] = rw mul-zero
length-each bytes k h (a ∷ l) =
    length-append (bytes a) (each bytes l) ∙ rw (h a, length-each bytes k h l) (omega (arith, mul-suc k (length l)))

pub length-cart : (x : Cart) → length (cart_bytes x) ≡ 36
unfolding cart_bytes
length-cart x = simp (length-append, length-vector, length-number)

pub length-line : (l : Line) → length (line_bytes l) ≡ 16
unfolding line_bytes
length-line l = simp (length-append, length-vector)

pub length-obstacle : (o : Obstacle) → length (obstacle_bytes o) ≡ 2 + 8 * size_of o
unfolding obstacle_bytes
length-obstacle o = simp (length-append, length-big-endian, length-each vector_bytes 8 length-vector)

pub length-obstacles : (total : ℕ) (os : List Obstacle) → total ≤ 192 → Every GoodObstacle on_total total os →
    length (each obstacle_bytes os) + 8 * total ≤ 2 * length os + 1536
unfolding each
length-obstacles total [] h ok = omega arith
length-obstacles total (o ∷ os) h ok =
    let room = (room_within total (size_of o) ok.0.room).1 in
    let r : length (each obstacle_bytes os) + 8 * (total + size_of o) ≤ 2 * length os + 1536 =
    length-obstacles (total + size_of o) os room ok.1 in
    let e : length (obstacle_bytes o ++ each obstacle_bytes os) ≡ 2 + 8 * size_of o + length (each obstacle_bytes os) =
    length-append (obstacle_bytes o) (each obstacle_bytes os) ∙ rw (length-obstacle o) in
    omega arith

module _ (x : Cart) (os : List Obstacle) (ls : List Line) (ok : GoodParts x os ls) where
  length-body : length (body_bytes x os ls) ≤ longest_rest
  unfolding body_bytes
  length-body =
      let r = length-obstacles 0 os (omega arith) ok.obstacles in
      simp (length-append, length-big-endian, length-cart, length-each line_bytes 16 length-line)
      (omega (arith, ok.few, ok.fewer))

  pub parts-read-version-1 : scene_in_version1 (record_bytes x os ls)
      ≡ got (scene_of x (length os) os (length ls) ls) (length (record_bytes x os ls))
  unfolding scene_in_version1 announced record_bytes
  parts-read-version-1 =
      let n : length (body_bytes x os ls) ≤ longest_rest = length-body in
      let s : List ℕ = big_endian 2 (length (body_bytes x os ls)) ++ body_bytes x os ls in
      let e : length (body_bytes x os ls) ≡ length s - 2 =
      (let k = length-append (big_endian 2 (length (body_bytes x os ls))) (body_bytes x os ls) in let j =
      length-big-endian 2 (length (body_bytes x os ls)) in omega arith) in
      taking (word_back s 2 0 (length (body_bytes x os ls)) (body_bytes x os ls) (lit< tt) (omega arith) refl) λ a g i d.
      rw (g, le-leb _ longest_rest n, eq-eqb _ _ e) (fields_back s x os ls ok a d)
