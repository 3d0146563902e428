-- Law: the bytes of a scene without a fault are read back to that scene, with zeros behind its counts. Assumes nothing.
use Prim.Native.Nat.{ℕ, zero, suc, ◌+◌, ◌*◌, ◌≤◌}
use native.Mathlib.Omega.{arith}
use mathlib.Core.Path.{◌≡◌, refl, sym, ap, ◌∙◌}
use mathlib.Core.Bool.{Bool, true}
use mathlib.Core.List.{List, [], ◌∷◌}
use lib.ListN.{length, take, drop, length-drop}
use lib.Seq.{length-take-le}
use lib.Ieee.{Float, binary32, fits}
use Rattle.arithmetic.specs.Binary32.{0ᶠ, finite}
use Rattle.arithmetic.proofs.Lists.{All, none, more, all_take, all_drop}
use Rattle.admission.specs.declared.Head.{Head}
use Rattle.admission.specs.Faults.{fine, must, within, inside}
use Rattle.admission.proofs.FaultLaws.{no-fault, ⊳-fine, must-fine}
use Rattle.admission.proofs.HeadLaws.{room_within}
use Rattle.common.specs.declared.Vec2.{Vec2}
use Rattle.common.specs.Vectors.{vec, reach, longest, length_squared_of}
use Rattle.lines.specs.declared.Line.{Line}
use Rattle.lines.specs.Lines.{lines_of}
use Rattle.lines.specs.LineFaults.{line_reach, band_low, band_high, line_fault, lines_fault}
use Rattle.lines.proofs.Rows.{lines_long}
use Rattle.obstacles.specs.Vertices.{vertices_of}
use Rattle.obstacles.proofs.VertexNumbers.{vertices-long}
use Rattle.dodgy_2d.specs.declared.Scene.{Scene}
use Rattle.edges.specs.Edges.{OuterVertex, shortest_horizon, longest_horizon}
use Rattle.obstacles.specs.Doubled.{none_before, on_vertex}
use Rattle.obstacles.specs.ObstacleFaults.{vector_fault, agent_fault, number_fault, components_fault, vertex_fault, vertices_fault, head_fault, outline_fault}
use Rattle.dodgy_2d.specs.Scenes.{heads_of, heads_in, neighbours_in, cart_fault, obstacles_fault, scene_fault}
use Rattle.obstacles.proofs.ObstacleFaults.{head_passed}
use Rattle.dodgy_2d.proofs.ScenePasses.{parts}
use Rattle.fields.specs.Got.{got}
use Rattle.fields.proofs.Backs.{Every}
use Rattle.scene_records.specs.Records.{scene_of, scene_in_version1}
use Rattle.scene_records.specs.SceneBytes.{cart_in, with_vertices, obstacles_in, scene_bytes}
use Rattle.scene_records.proofs.WrittenParts.{Good, GoodVector, GoodCart, GoodVertex, GoodObstacle, GoodLine, GoodParts, on_total, parts-read-version-1}

-- ---- what every value of the code's type has: its numbers are f32, and its arrays have their lengths

abbrev pub Fit : Float → Type 0
Fit x = fits binary32 x ≡ true

pub record FitVector (v : Vec2) : Type 0 where
  pub x : Fit v.x
  pub y : Fit v.y

pub record FitLine (l : Line) : Type 0 where
  pub point : FitVector l.point
  pub direction : FitVector l.direction

pub record Typed (c : Scene) : Type 0 where
  pub position : FitVector c.agent.position
  pub velocity : FitVector c.agent.velocity
  pub margin : Fit c.margin
  pub horizon : Fit c.horizon
  pub wish : FitVector c.wish
  pub limit : Fit c.limit
  pub kinds : length c.kinds ≡ 16
  pub counts : length c.counts ≡ 16
  pub vertices : length c.vertices ≡ 384
  pub vertex_numbers : All Fit c.vertices
  pub lines : length c.lines ≡ 256
  pub line_numbers : All Fit c.lines

-- numbers by fours
pub fit-lines : (xs : List Float) → All Fit xs → All FitLine (lines_of xs)
unfolding lines_of
fit-lines [] h = none
fit-lines (a ∷ []) h = none
fit-lines (a ∷ b ∷ []) h = none
fit-lines (a ∷ b ∷ c ∷ []) h = none
fit-lines (a ∷ b ∷ c ∷ d ∷ xs) (more p (more q (more r (more t h)))) =
    more (record { point = record { x = p; y = q }; direction = record { x = r; y = t } }) (fit-lines xs h)

-- ---- without a fault, each rule passed

pub good : (passes : Float → Bool) (x : Float) (r : ℕ) → Fit x → must (passes x) r ≡ fine → Good passes x
good passes x r f e = record { fit = f; pass = must-fine (passes x) r e }

pub good-vector : (v : Vec2) → FitVector v → vector_fault v ≡ fine → GoodVector (within reach) v
unfolding vector_fault
good-vector v f e =
    let a = ⊳-fine (must (within reach v.x) 6) e in
    record { x = good (within reach) v.x 6 f.x a.0; y = good (within reach) v.y 6 f.y a.1 }

good-cart : (c : Scene) → Typed c → cart_fault c ≡ fine → GoodCart (cart_in c)
unfolding cart_fault agent_fault
good-cart c t e =
    let k = ⊳-fine (agent_fault c.agent c.margin c.horizon) e in
    let a = ⊳-fine (vector_fault c.agent.position) k.0 in
    let b = ⊳-fine (vector_fault c.agent.velocity) a.1 in
    let d = ⊳-fine (must (inside 0ᶠ longest c.margin) 6) b.1 in
    let g = ⊳-fine (vector_fault c.wish) k.1 in
    record {
      position = good-vector c.agent.position t.position a.0;
      velocity = good-vector c.agent.velocity t.velocity b.0;
      margin = good (inside 0ᶠ longest) c.margin 6 t.margin d.0;
      horizon = good (inside shortest_horizon longest_horizon) c.horizon 6 t.horizon d.1;
      wish = good-vector c.wish t.wish g.0;
      limit = good (inside 0ᶠ longest) c.limit 6 t.limit g.1;
    }

pub good-vertices : (before : OuterVertex) (n : ℕ) (xs : List Float) → All Fit xs → vertices_fault before n xs ≡ fine →
    Every GoodVertex on_vertex before (vertices_of (take (2 * n) xs))
unfolding vertices_of number_fault components_fault vertex_fault vertices_fault
good-vertices before zero xs h e = tt
good-vertices before (suc n) [] h e = absurd (no-fault 2 (sym e))
good-vertices before (suc n) (x ∷ []) h e =
    let a = ⊳-fine (vertex_fault before (x ∷ [])) e in
    let b = ⊳-fine (components_fault (x ∷ [])) a.0 in
    absurd (no-fault 2 (sym (⊳-fine (must (within reach x) 6) b.0).1))
good-vertices before (suc n) (x ∷ y ∷ xs) (more p (more q h)) e =
    let a = ⊳-fine (vertex_fault before (x ∷ y ∷ xs)) e in
    let b = ⊳-fine (components_fault (x ∷ y ∷ xs)) a.0 in
    let d = ⊳-fine (must (within reach x) 6) b.0 in
    let two : 2 * suc n ≡ suc (suc (2 * n)) = omega arith in
    let own : GoodVertex before (vec x y) =
    record {
      vector = record { x = good (within reach) x 6 p d.0; y = good (within reach) y 6 q d.1 };
      apart = must-fine _ 14 b.1;
    } in
    rw two (own, good-vertices (on_vertex before (vec x y)) n xs h a.1)

-- each obstacle's vertices are there: the total before it and the numbers left make up 384
good-obstacles : (total : ℕ) (hs : List Head) (xs : List Float) → 2 * total + length xs ≡ 384 → All Fit xs →
    obstacles_fault total hs xs ≡ fine → Every GoodObstacle on_total total (with_vertices hs xs)
unfolding obstacles_fault outline_fault with_vertices
good-obstacles total [] xs l h e = tt
good-obstacles total (k ∷ hs) xs l h e =
    let head-fine = ⊳-fine (head_fault total k) e in
    let outline-fine = ⊳-fine (outline_fault k xs) head-fine.1 in
    let vertices-fine = ⊳-fine (vertices_fault none_before k.count xs) outline-fine.0 in
    let passed = head_passed total k head-fine.0 in
    let fit : total + k.count ≤ 192 = (room_within total k.count passed.1).1 in
    let front : length (take (2 * k.count) xs) ≡ 2 * k.count = length-take-le (2 * k.count) xs (omega arith) in
    let size : length (vertices_of (take (2 * k.count) xs)) ≡ k.count =
    vertices-long (take (2 * k.count) xs) k.count front in
    let behind : 2 * (total + k.count) + length (drop (2 * k.count) xs) ≡ 384 = rw length-drop (omega arith) in (
      record {
        kind = passed.0;
        room = rw size passed.1;
        some = rw size passed.2;
        vertices = good-vertices none_before k.count xs h vertices-fine.0;
        closed = must-fine _ 14 vertices-fine.1;
      },
      rw size (good-obstacles (total + k.count) hs (drop (2 * k.count) xs) behind (all_drop (2 * k.count) h)
          outline-fine.1),
    )

pub good-line : (l : Line) → FitLine l → line_fault l ≡ fine → GoodLine l
unfolding line_fault
good-line l f e =
    let a = ⊳-fine (must (within line_reach l.point.x) 6) e in
    let b = ⊳-fine (must (within line_reach l.point.y) 6) a.1 in
    let c = ⊳-fine (must (finite l.direction.x) 6) b.1 in
    let d = ⊳-fine (must (finite l.direction.y) 6) c.1 in
    record {
      point = record {
        x = good (within line_reach) l.point.x 6 f.point.x a.0;
        y = good (within line_reach) l.point.y 6 f.point.y b.0;
      };
      direction = record {
        x = good finite l.direction.x 6 f.direction.x c.0;
        y = good finite l.direction.y 6 f.direction.y d.0;
      };
      band = must-fine (inside band_low band_high (length_squared_of l.direction)) 7 d.1;
    }

pub good-lines : (ls : List Line) → All FitLine ls → lines_fault ls ≡ fine → Every (λ (u : Unit {0}). GoodLine) (λ u l. u) tt ls
unfolding lines_fault
good-lines [] h e = tt
good-lines (l ∷ ls) (more p h) e = let a = ⊳-fine (line_fault l) e in (good-line l p a.0, good-lines ls h a.1)

-- ---- counts

pub heads-long : (ks cs : List ℕ) (n : ℕ) → length ks ≡ n → length cs ≡ n → length (heads_of ks cs) ≡ n
unfolding heads_of
heads-long [] cs n p q = p
heads-long (k ∷ ks) [] n p q = q
heads-long (k ∷ ks) (c ∷ cs) zero p q = absurd (omega arith)
heads-long (k ∷ ks) (c ∷ cs) (suc n) p q = ap suc (heads-long ks cs n (omega arith) (omega arith))

pub with-long : (hs : List Head) (xs : List Float) → length (with_vertices hs xs) ≡ length hs
unfolding with_vertices
with-long [] xs = refl
with-long (h ∷ hs) xs = ap suc (with-long hs (drop (2 * h.count) xs))

module _ (c : Scene) (t : Typed c) where
  obstacles-long : c.obstacles ≤ 16 → length (obstacles_in c) ≡ c.obstacles
  obstacles-long h = with-long (heads_in c) c.vertices
      ∙ heads-long _ _ c.obstacles (length-take-le _ c.kinds (rw t.kinds h))
      (length-take-le _ c.counts (rw t.counts h))

  neighbours-long : c.neighbours ≤ 64 → length (neighbours_in c) ≡ c.neighbours
  neighbours-long h = length-take-le _ (lines_of c.lines) (rw (lines_long c.lines, t.lines) h)

  -- the scene with zeros behind its counts
  abbrev pub tidied : Scene
  tidied = scene_of (cart_in c) c.obstacles (obstacles_in c) c.neighbours (neighbours_in c)

  pub bytes-are-read-version-1 : scene_fault c ≡ fine → scene_in_version1 (scene_bytes c) ≡ got tidied (length (scene_bytes c))
  bytes-are-read-version-1 e =
      let p = parts c e in
      let os-long = obstacles-long p.obstacles in
      let ls-long = neighbours-long p.neighbours in
      let ok : GoodParts (cart_in c) (obstacles_in c) (neighbours_in c) = record {
        cart = good-cart c t p.cart;
        few = rw os-long p.obstacles;
        obstacles = good-obstacles 0 (heads_in c) c.vertices (omega (arith, t.vertices)) t.vertex_numbers p.walls;
        fewer = rw ls-long p.neighbours;
        lines = good-lines (neighbours_in c) (all_take c.neighbours (fit-lines c.lines t.line_numbers)) p.lines;
      } in
      rw (os-long, ls-long) at (parts-read-version-1 (cart_in c) (obstacles_in c) (neighbours_in c) ok)
