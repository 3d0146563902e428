-- 01, "Records": the cart, the obstacles (02, T-11: none with doubled vertices) and the neighbour lines of a scene
-- record, field by field. Definitions only. Assumes nothing.
use Rattle.std.specs.Prelude.{ℕ, ◌+◌, ◌*◌, not, List, [], ◌∷◌, map, length, replicate, Float}
use Rattle.std.proofs.lemmas.List.Edits.{sets}
use Rattle.arithmetic.specs.Binary32.{0ᶠ, finite}
use Rattle.admission.specs.declared.Head.{Head}
use Rattle.admission.specs.Faults.{within, inside}
use Rattle.admission.specs.Heads.{most_together, head_of, is_kind, room_for, is_empty_open}
use Rattle.common.specs.declared.Vec2.{Vec2}
use Rattle.common.specs.Vectors.{reach, longest, length_squared_of}
use Rattle.lines.specs.declared.Line.{Line}
use Rattle.lines.specs.Lines.{line}
use Rattle.lines.specs.LineFaults.{line_reach, band_low, band_high}
use Rattle.edges.specs.Edges.{OuterVertex, shortest_horizon, longest_horizon}
use Rattle.obstacles.specs.Doubled.{follows, none_before, on_vertex, closes}
use Rattle.dodgy_2d.specs.Scenes.{most_obstacles}
use Rattle.fields.specs.Bytes.{each}
use Rattle.fields.specs.Got.{Got, refused, got, then, guard, word, many}
use Rattle.scene_records.specs.declared.Cart.{Cart}
use Rattle.scene_records.specs.Steps.{number, vector}

-- ---- the cart

abbrev pub cart_of : Vec2 → Vec2 → Float → Float → Vec2 → Float → Cart
cart_of p v m h w l = record { agent = record { position = p; velocity = v }; margin = m; horizon = h; wish = w; limit = l }

-- "position, velocity, margin, horizon, wish, limit"
unfoldable pub cart : List ℕ → ℕ → Got Cart
cart s at =
    then (vector (within reach) s at) λ p a.
    then (vector (within reach) s a) λ v b.
    then (number (inside 0ᶠ longest) s b) λ m c.
    then (number (inside shortest_horizon longest_horizon) s c) λ h d.
    then (vector (within reach) s d) λ w e.
    then (number (inside 0ᶠ longest) s e) λ l f.
    got (cart_of p v m h w l) f

-- ---- the obstacles

-- kind (3), vertex count (4), then 5 where an open obstacle has none
unfoldable pub head : List ℕ → ℕ → ℕ → Got Head
head s total at =
    then (word 1 s at) λ k a.
    guard (is_kind k) 3 (
    then (word 1 s a) λ c b.
    guard (room_for total c) 4 (
    guard (not (is_empty_open k c)) 5 (
    got (head_of k c) b)))

-- 02, T-11: "14, at the second vertex of the pair after its own check for 6"
unfoldable pub vertex : List ℕ → OuterVertex → ℕ → Got Vec2
vertex s before at = then (vector (within reach) s at) λ v a. guard (follows before v) 14 (got v a)

-- each behind the one before it
unfoldable pub vertices_at : List ℕ → OuterVertex → ℕ → ℕ → Got (List Vec2)
vertices_at s before n at = many (vertex s) on_vertex n before at

-- 02, T-11: "the closing pair after the last vertex"
unfoldable pub outline : List ℕ → Head → ℕ → Got (List Vec2)
outline s h at = then (vertices_at s none_before h.count at) λ vs b. guard (closes h.kind vs) 14 (got vs b)

pub record Obstacle : Type 0 where
  pub kind : ℕ
  pub vertices : List Vec2

abbrev pub size_of : Obstacle → ℕ
size_of o = length o.vertices

unfoldable pub obstacle : List ℕ → ℕ → ℕ → Got Obstacle
obstacle s total at = then (head s total at) λ h a. then (outline s h a) λ vs b. got (record { kind = h.kind; vertices = vs }) b

-- the running total of vertices stands before each obstacle
unfoldable pub obstacles : List ℕ → ℕ → ℕ → ℕ → Got (List Obstacle)
obstacles s n total at = many (obstacle s) (λ t o. t + size_of o) n total at

-- ---- the neighbour lines

-- "lines as point, direction"; "7 follows both direction components"
unfoldable pub neighbour : List ℕ → ℕ → Got Line
neighbour s at =
    then (vector (within line_reach) s at) λ p a.
    then (vector finite s a) λ d b.
    guard (inside band_low band_high (length_squared_of d)) 7 (got (line p d) b)

unfoldable pub neighbours : List ℕ → ℕ → ℕ → Got (List Line)
neighbours s n at = many (λ (u : Unit {0}). neighbour s) (λ u l. u) n tt at

-- ---- as a scene has them

-- what was read, its numbers stored from a place on
unfoldable pub stored : {A : Type 0} → (A → List Float) → List Float → ℕ → Got (List A) → Got (List Float)
stored numbers all place (refused r) = refused r
stored numbers all place (got l at) = got (sets all place (each numbers l)) at

abbrev pub coordinates : Vec2 → List Float
coordinates v = v.x ∷ v.y ∷ []

unfoldable pub blank_bytes : List ℕ
blank_bytes = replicate most_obstacles 0

unfoldable pub blank_vertices : List Float
blank_vertices = replicate (2 * most_together) 0ᶠ

-- the obstacles' kinds, vertex counts and vertices, obstacle behind obstacle
pub record Walls : Type 0 where
  pub kinds : List ℕ
  pub counts : List ℕ
  pub vertices : List Float

abbrev pub walls : List ℕ → List ℕ → List Float → Walls
walls ks cs vs = record { kinds = ks; counts = cs; vertices = vs }

abbrev pub kind_of : Obstacle → ℕ
kind_of o = o.kind

abbrev pub numbers_in : Obstacle → List Float
numbers_in o = each coordinates o.vertices

-- obstacles stored from the index i and from the vertex `total` on
abbrev pub walls_with : Walls → ℕ → ℕ → List Obstacle → Walls
walls_with w i total os = walls (sets w.kinds i (map kind_of os)) (sets w.counts i (map size_of os))
    (sets w.vertices (2 * total) (each numbers_in os))

unfoldable pub stored_walls : Walls → ℕ → ℕ → Got (List Obstacle) → Got Walls
stored_walls w i total (refused r) = refused r
stored_walls w i total (got os at) = got (walls_with w i total os) at
