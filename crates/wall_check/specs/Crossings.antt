-- 02, T-08: whether a move crosses an edge, and what is told over all edges of lent obstacles. The edges are those of
-- 01, which `obstacles` defines. Definitions only. Assumes nothing.
use Rattle.std.specs.Prelude.{ℕ, zero, suc, ◌+◌, ◌*◌, ◌/◌, Bool, true, false, ◌&&◌, List, [], ◌∷◌, ◌++◌, length, take, drop, Option, Some, None, Result, Ok, Err, Float}
use Rattle.arithmetic.specs.Binary32.{0ᶠ, 1ᶠ}
use Rattle.admission.specs.declared.refusal.Refusal.{Refusal}
use Rattle.admission.specs.Refusals.{number_of}
use Rattle.admission.specs.Faults.{Fault, ◌⊳◌, unless_fault, inside}
use Rattle.common.specs.declared.Vec2.{Vec2}
use Rattle.common.specs.Meetings.{times_of}
use Rattle.edges.specs.Edges.{Edge}
use Rattle.obstacles.specs.ObstacleFaults.{vector_fault}
use Rattle.obstacles.specs.Vertices.{vertices_of, edge_at}
use Rattle.obstacles.specs.Obstacles.{edge_count}
use Rattle.layouts.specs.Layouts.{own_kind, own_count, layout_fault, vertex_total, left_fault}
use Rattle.wall_check.specs.declared.Crossing.{Crossing}

-- ---- one edge

-- "the lines have times and both times lie from 0 to 1, ends counted"; "a NaN time is not within 0 to 1"
unfoldable pub are_within : Option Vec2 → Bool
are_within (Some t) = inside 0ᶠ 1ᶠ t.x && inside 0ᶠ 1ᶠ t.y
are_within None = false

-- the move is the first line, the edge from its left to its right end the second; an edge that is not there is not crossed
unfoldable pub crosses : Vec2 → Vec2 → Option (Vec2 × Vec2) → Bool
crosses from to (Some e) = are_within (times_of from to e.0 e.1)
crosses from to None = false

-- ---- all edges in record order

-- an edge with its place: its obstacle, and its left vertex there
pub record Wall : Type 0 where
  pub obstacle : ℕ
  pub vertex : ℕ
  pub edge : Edge

abbrev pub wall : ℕ → ℕ → Edge → Wall
wall o i e = record { obstacle = o; vertex = i; edge = e }

-- k edges of the obstacle o, whose vertices have these numbers, from the i-th edge on
unfoldable pub walls_from : ℕ → ℕ → List Float → ℕ → ℕ → List Wall
walls_from o kind xs i zero = []
walls_from o kind xs i (suc k) = wall o i (edge_at kind (length xs / 2) (vertices_of xs) i) ∷ walls_from o kind xs (i + 1) k

-- all of its edges
unfoldable pub own_walls : ℕ → ℕ → List Float → List Wall
own_walls o kind xs = walls_from o kind xs 0 (edge_count kind (length xs / 2))

-- those of n obstacles, obstacle behind obstacle, the first of them being o
unfoldable pub walls_of : ℕ → ℕ → List ℕ → List ℕ → List Float → List Wall
walls_of o zero ks cs xs = []
walls_of o (suc n) ks cs xs = own_walls o (own_kind ks) (take (2 * own_count cs) xs) ++ walls_of (o + 1) n (drop 1 ks)
    (drop 1 cs) (drop (2 * own_count cs) xs)

-- ---- the crossed ones

abbrev pub is_crossed : Vec2 → Vec2 → Wall → Bool
is_crossed from to w = crosses from to (Some (w.edge.left.point, w.edge.right.point))

-- in front of the others, if the test passes
abbrev pub kept_if : {A : Type 0} → Bool → A → List A → List A
kept_if true w ws = w ∷ ws
kept_if false w ws = ws

unfoldable pub crossed_in : Vec2 → Vec2 → List Wall → List Wall
crossed_in from to [] = []
crossed_in from to (w ∷ ws) = kept_if (is_crossed from to w) w (crossed_in from to ws)

-- the first crossed edge, as its obstacle and its left vertex, and how many are crossed; or none is; or the number of
-- the first fault
pub data WallCheck : Type 0 where
  crossed : ℕ → ℕ → ℕ → WallCheck
  clear : WallCheck
  refused : ℕ → WallCheck

-- "the first crossed edge in record order, or none exactly when no edge is crossed, and the number of crossed edges"
unfoldable pub found_in : List Wall → WallCheck
found_in [] = clear
found_in (w ∷ ws) = crossed w.obstacle w.vertex (length (w ∷ ws))

-- ---- the check

-- "Refusals: 2 to 6 as in the scene's field order, the two positions judged first"; what is lent beyond the counts is told last
unfoldable pub move_fault : Vec2 → Vec2 → ℕ → List ℕ → List ℕ → List Float → Fault
move_fault from to n ks cs xs =
    (vector_fault from ⊳ vector_fault to) ⊳ layout_fault n ks cs xs ⊳ left_fault n (vertex_total n cs) ks cs xs

unfoldable pub checked_move : Vec2 → Vec2 → ℕ → List ℕ → List ℕ → List Float → WallCheck
checked_move from to n ks cs xs =
    unless_fault refused (move_fault from to n ks cs xs) (found_in (crossed_in from to (walls_of 0 n ks cs xs)))

-- ---- on the way: what is known of the edges before, and those behind

-- how many edges are known to be crossed
abbrev pub count_in : WallCheck → ℕ
count_in (crossed o i n) = n
count_in clear = 0
count_in (refused r) = 0

-- more crossed edges, behind what is known
unfoldable pub behind : WallCheck → List Wall → WallCheck
behind (crossed o i n) ws = crossed o i (n + length ws)
behind clear ws = found_in ws
behind (refused r) ws = refused r

-- one edge more, crossed or not
abbrev pub counted : WallCheck → ℕ → ℕ → WallCheck
counted (crossed o i n) obstacle vertex = crossed o i (n + 1)
counted clear obstacle vertex = crossed obstacle vertex 1
counted (refused r) obstacle vertex = refused r

unfoldable pub one_more : WallCheck → Bool → ℕ → ℕ → WallCheck
one_more known true obstacle vertex = counted known obstacle vertex
one_more known false obstacle vertex = known

-- ---- what the code says: of the edges, and of the check

abbrev pub known_of : Option Crossing → WallCheck
known_of (Some c) = crossed c.obstacle c.vertex c.count
known_of None = clear

abbrev pub check_of : Result (Option Crossing) Refusal → WallCheck
check_of (Ok c) = known_of c
check_of (Err r) = refused (number_of r)
