-- Law: a scene that was read has no fault. Assumes nothing.
use Prim.Native.Nat.{ℕ, zero, suc, ◌+◌, ◌≤◌}
use native.Mathlib.Omega.{arith}
use mathlib.Core.Path.{◌≡◌, refl}
use mathlib.Core.Bool.{Bool, true}
use mathlib.Core.List.{List, ◌++◌, map, append_assoc}
use lib.ListN.{length, length-map}
use lib.Ieee.{Float}
use borrow.Author.Tests.{le-leb}
use Rattle.admission.specs.Faults.{fine, within}
use Rattle.admission.specs.Heads.{head_of}
use Rattle.common.specs.declared.Vec2.{Vec2}
use Rattle.lines.specs.declared.Line.{Line}
use Rattle.lines.specs.LineFaults.{line_fault, lines_fault}
use Rattle.common.specs.Vectors.{reach}
use Rattle.edges.specs.Edges.{OuterVertex}
use Rattle.dodgy_2d.specs.declared.Scene.{Scene}
use Rattle.obstacles.specs.Doubled.{none_before, on_vertex, closes}
use Rattle.obstacles.specs.ObstacleFaults.{vector_fault, agent_fault, number_fault, components_fault, vertex_fault, vertices_fault, head_fault, outline_fault}
use Rattle.dodgy_2d.specs.Scenes.{heads_of, cart_fault, obstacles_fault, scene_fault}
use Rattle.fields.specs.Bytes.{each}
use Rattle.fields.specs.Got.{got, many}
use Rattle.fields.proofs.ChainLaws.{then-got, cons-got, got_same}
use Rattle.scene_records.specs.declared.Cart.{Cart}
use Rattle.scene_records.specs.Steps.{number, vector}
use Rattle.scene_records.specs.Parts.{cart, coordinates, vertex, vertices_at, Obstacle, size_of, kind_of, numbers_in, obstacle, obstacles, neighbour, neighbours}
use Rattle.scene_records.specs.Records.{scene_of, scene_in_version1}
use Rattle.scene_records.specs.declared.Version.{Version}
use Rattle.scene_records.specs.Versions.{line_number, NumberedLine, numbered_line, numbered_lines, line_of, Numbered, scene_made, scene_in}
use Rattle.scene_records.proofs.Taken.{number-taken, vector-taken, cart-taken, vertex-taken, obstacle-taken, line_taken, fields-taken, scene-taken-version-1, numbered-taken, record-taken}
use Rattle.scene_records.proofs.VersionLaws.{either-taken}
use Rattle.scene_records.proofs.SceneParts.{own-vertices, later-vertices, vertices-front, heads-back, neighbours-back}
use Rattle.scene_records.proofs.WallLaws.{vertices-back}
use Rattle.scene_records.proofs.ReadBytes.{obstacles-total}

module _ (s : List ℕ) where
  number_passed : (passes : Float → Bool) (at : ℕ) (x : Float) (m : ℕ) → number passes s at ≡ got x m → passes x ≡ true
  number_passed passes at x m e = number-taken s passes at x m e λ b p v t. t

  vector-passed : (passes : Float → Bool) (at : ℕ) (v : Vec2) (m : ℕ) → vector passes s at ≡ got v m →
      (passes v.x ≡ true) × (passes v.y ≡ true)
  vector-passed passes at v m e = vector-taken s passes at v m e λ a p q. (
    number_passed passes at v.x a p,
    number_passed passes a v.y m q,
  )

  vector-fine : (at : ℕ) (v : Vec2) (m : ℕ) → vector (within reach) s at ≡ got v m → vector_fault v ≡ fine
  unfolding vector_fault
  vector-fine at v m e = let h = vector-passed (within reach) at v m e in rw (h.0, h.1)

  cart-fine : (at : ℕ) (x : Cart) (m n : ℕ) (os : List Obstacle) (k : ℕ) (ls : List Line) → cart s at ≡ got x m →
      cart_fault (scene_of x n os k ls) ≡ fine
  unfolding cart_fault agent_fault
  cart-fine at x m n os k ls z =
      cart-taken s at x m z λ a b d e f p v g t w l read-p read-v read-g read-t read-w read-l same.
      rw (← same) (rw (
        vector-fine at p a read-p,
        vector-fine a v b read-v,
        number_passed _ b g d read-g,
        number_passed _ d t e read-t,
        vector-fine e w f read-w,
        number_passed _ f l m read-l,
      ) refl)

  vertices-fine : (before : OuterVertex) (n at : ℕ) (vs : List Vec2) (m : ℕ) (behind : List Float) →
      vertices_at s before n at ≡ got vs m → vertices_fault before n (each coordinates vs ++ behind) ≡ fine
  unfolding vertices_at many each number_fault components_fault vertex_fault vertices_fault
  vertices-fine before zero at vs m behind e = refl
  vertices-fine before (suc n) at vs m behind e =
      then-got (vertex s before at) _ e λ v a p r.
      cons-got v (vertices_at s (on_vertex before v) n a) r λ rest q u.
      vertex-taken s before at v a p λ read apart.
      let h = vector-passed (within reach) at v a read in
      rw (u, h.0, h.1, apart) (vertices-fine (on_vertex before v) n a rest m behind q)

  outline-fine : (o : Obstacle) (at m : ℕ) (behind : List Float) →
      vertices_at s none_before (size_of o) at ≡ got o.vertices m → closes o.kind o.vertices ≡ true
      → outline_fault (head_of o.kind (size_of o)) (numbers_in o ++ behind) ≡ fine
  unfolding outline_fault
  outline-fine o at m behind e h = rw (
    vertices-fine none_before (size_of o) at o.vertices m behind e,
    own-vertices o behind,
    vertices-back o.vertices,
    h,
  )

  obstacles-fine : (n total at : ℕ) (os : List Obstacle) (m : ℕ) (rest : List Float) → obstacles s n total at ≡ got os m
      → obstacles_fault total (heads_of (map kind_of os) (map size_of os)) (each numbers_in os ++ rest) ≡ fine
  unfolding obstacles many each obstacles_fault head_fault heads_of
  obstacles-fine zero total at os m rest e = rw (← (got_same e).0)
  obstacles-fine (suc n) total at os m rest e =
      then-got (obstacle s total at) _ e λ o a p r.
      cons-got o (obstacles s n (total + size_of o) a) r λ more q u.
      obstacle-taken s total at o a p λ b d read-k known read-n room some read-vs pair.
      rw (
        u,
        known,
        room,
        some,
        append_assoc (numbers_in o) (each numbers_in more) rest,
        later-vertices o (each numbers_in more ++ rest),
        outline-fine o d a (each numbers_in more ++ rest) read-vs pair,
      )
      (obstacles-fine n (total + size_of o) a more m rest q)

  line-fine : (at : ℕ) (l : Line) (m : ℕ) → neighbour s at ≡ got l m → line_fault l ≡ fine
  unfolding line_fault
  line-fine at l m e =
      line_taken s at l m e λ a read-p read-d band.
      let p = vector-passed _ at l.point a read-p in
      let d = vector-passed _ a l.direction m read-d in
      rw (p.0, p.1, d.0, d.1, band)

  lines-fine : (n at : ℕ) (ls : List Line) (m : ℕ) → neighbours s n at ≡ got ls m → lines_fault ls ≡ fine
  unfolding neighbours many lines_fault
  lines-fine zero at ls m e = rw (← (got_same e).0)
  lines-fine (suc n) at ls m e =
      then-got (neighbour s at) _ e λ l a p r.
      cons-got l (neighbours s n a) r λ rest q u.
      rw (u, line-fine at l a p) (lines-fine n a rest m q)

  numbered-fine : (v : Version) (n at : ℕ) (ls : List NumberedLine) (m : ℕ) → numbered_lines v s n at ≡ got ls m →
      lines_fault (map line_of ls) ≡ fine
  unfolding numbered_lines numbered_line many lines_fault
  numbered-fine v zero at ls m e = rw (← (got_same e).0)
  numbered-fine v (suc n) at ls m e =
      then-got (numbered_line v s at) _ e λ l a p r.
      cons-got l (numbered_lines v s n a) r λ rest q u.
      then-got (line_number v s at) _ p λ k b read-k t.
      then-got (neighbour s b) _ t λ own d read-own same.
      rw (u, ← (got_same same).0, line-fine b own d read-own) (numbered-fine v n a rest m q)

  parts-fine : (at b d e : ℕ) (x : Cart) (os : List Obstacle) (ls : List Line) → cart s at ≡ got x b → length os ≤ 16 →
      obstacles s (length os) 0 d ≡ got os e → length ls ≤ 64 → lines_fault ls ≡ fine
      → scene_fault (scene_of x (length os) os (length ls) ls) ≡ fine
  unfolding scene_fault
  parts-fine at b d e x os ls read-cart few-os list-os few-ls h =
      let fits : length (each numbers_in os) ≤ 384 =
      (let most = obstacles-total s (length os) 0 d os e (omega arith) list-os in omega arith) in
      rw (
        cart-fine at x b (length os) os (length ls) ls read-cart,
        le-leb _ 16 few-os,
        heads-back x os (length ls) ls few-os,
        vertices-front os fits,
        obstacles-fine (length os) 0 d os e _ list-os,
        le-leb _ 64 few-ls,
        neighbours-back x (length os) os ls few-ls,
      )
      h

  pub read-admitted-version-1 : (c : Scene) (m : ℕ) → scene_in_version1 s ≡ got c m → scene_fault c ≡ fine
  read-admitted-version-1 c m z =
      scene-taken-version-1 s c m z λ n read-n few-n right z'.
      fields-taken s 2 c m z' λ a b d e f x os ls read-version read-cart read-os few-os list-os read-ls few-ls list-ls end same.
      rw same (parts-fine a b d e x os ls read-cart few-os list-os few-ls (lines-fine (length ls) f ls m list-ls))

  pub read-admitted : (x : Numbered) (m : ℕ) → scene_in s ≡ got x m → scene_fault x.scene ≡ fine
  read-admitted x m z =
      either-taken s x m z λ v z'.
      record-taken s scene_made v x m z' λ n read-n right few-n byte fits fields.
      numbered-taken s scene_made v 3 x m fields λ b d e f c os ls read-cart read-os few-os list-os read-ls few-ls
      list-ls end same.
      rw (same, ← length-map ls line_of) (parts-fine 3 b d e c os (map line_of ls) read-cart few-os list-os
      (rw (length-map ls line_of) few-ls) (numbered-fine v (length ls) f ls m list-ls))
