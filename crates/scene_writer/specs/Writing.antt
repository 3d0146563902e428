-- 02, T-01: what is refused of a scene's parts that are lent as numbers, and what writing them leaves in a lent buffer.
-- Definitions only. Assumes nothing.
use Rattle.std.specs.Prelude.{ℕ, zero, suc, ◌*◌, List, ◌++◌, leb, length, take, drop, get_or, Float, Result, Ok, Err}
use Rattle.std.proofs.lemmas.List.Edits.{sets}
use Rattle.std.specs.Float.{nan}
use Rattle.arithmetic.specs.Binary32.{0ᶠ, finite}
use Rattle.admission.specs.Faults.{Fault, fine, fault, must, ◌⊳◌, unless_fault, within, inside}
use Rattle.common.specs.Vectors.{longest, vec, length_squared_of}
use Rattle.lines.specs.Lines.{lines_of}
use Rattle.lines.specs.LineFaults.{line_reach, band_low, band_high}
use Rattle.obstacles.specs.ObstacleFaults.{number_fault, vector_fault, agent_fault}
use Rattle.obstacles.specs.Vertices.{vertices_of}
use Rattle.obstacles.specs.Read.{blank_numbers}
use Rattle.dodgy_2d.specs.declared.Scene.{Scene}
use Rattle.dodgy_2d.specs.Scenes.{most_neighbours, heads_of}
use Rattle.layouts.specs.Layouts.{layout_fault, vertex_total, left_fault}
use Rattle.scene_records.specs.declared.Cart.{Cart}
use Rattle.admission.specs.declared.refusal.Refusal.{Refusal}
use Rattle.admission.specs.Refusals.{number_of}
use Rattle.scene_records.specs.Parts.{Obstacle, walls, blank_bytes, blank_vertices}
use Rattle.scene_records.specs.Records.{scene_with}
use Rattle.scene_records.specs.SceneBytes.{with_vertices, record_bytes}

-- ---- the first fault

-- position, velocity, margin, horizon, wish, limit
unfoldable pub cart_fault : Cart → Fault
cart_fault c = agent_fault c.agent c.margin c.horizon ⊳ vector_fault c.wish ⊳ must (inside 0ᶠ longest c.limit) 6

-- the line in front: each of its four numbers, then the direction's band
unfoldable pub lent_line_fault : List Float → Fault
lent_line_fault xs =
    number_fault (within line_reach) xs
    ⊳ number_fault (within line_reach) (drop 1 xs)
    ⊳ number_fault finite (drop 2 xs)
    ⊳ number_fault finite (drop 3 xs)
    ⊳ must (inside band_low band_high (length_squared_of (vec (get_or xs 2 nan) (get_or xs 3 nan)))) 7

-- line by line, as many as n
unfoldable pub lent_lines_fault : ℕ → List Float → Fault
lent_lines_fault zero xs = fine
lent_lines_fault (suc n) xs = lent_line_fault xs ⊳ lent_lines_fault n (drop 4 xs)

unfoldable pub neighbours_fault : ℕ → List Float → Fault
neighbours_fault m ls = must (leb m most_neighbours) 4 ⊳ lent_lines_fault m ls

-- the neighbours, then "more numbers lent than the counts say"
unfoldable pub rest_fault : ℕ → ℕ → List ℕ → List ℕ → List Float → ℕ → List Float → Fault
rest_fault n total ks cs xs m ls = neighbours_fault m ls ⊳ left_fault n total ks cs xs ⊳ must (leb (length ls) (4 * m)) 2

unfoldable pub parts_fault : Cart → ℕ → List ℕ → List ℕ → List Float → ℕ → List Float → Fault
parts_fault c n ks cs xs m ls = cart_fault c ⊳ layout_fault n ks cs xs ⊳ rest_fault n (vertex_total n cs) ks cs xs m ls

-- ---- the record

-- an obstacle whose vertices stand in front
abbrev pub obstacle_from : ℕ → ℕ → List Float → Obstacle
obstacle_from kind count xs = record { kind = kind; vertices = vertices_of (take (2 * count) xs) }

-- the obstacles that were lent: each kind with its count, and its vertices behind those of the obstacles before it
abbrev pub lent_obstacles : List ℕ → List ℕ → List Float → List Obstacle
lent_obstacles ks cs xs = with_vertices (heads_of ks cs) xs

unfoldable pub lent_bytes : Cart → List ℕ → List ℕ → List Float → List Float → List ℕ
lent_bytes c ks cs xs ls = record_bytes c (lent_obstacles ks cs xs) (lines_of ls)

-- the scene whose parts are those lent, zeros behind the counts
abbrev pub lent_scene : Cart → ℕ → List ℕ → List ℕ → List Float → ℕ → List Float → Scene
lent_scene c n ks cs xs m ls = scene_with c n (walls (sets blank_bytes 0 ks) (sets blank_bytes 0 cs)
    (sets blank_vertices 0 xs)) m (sets blank_numbers 0 ls)

-- and back: a scene's parts, lent up to its counts
abbrev pub kinds_in : Scene → List ℕ
kinds_in c = take c.obstacles c.kinds

abbrev pub counts_in : Scene → List ℕ
counts_in c = take c.obstacles c.counts

abbrev pub vertices_in : Scene → List Float
vertices_in c = take (2 * vertex_total c.obstacles (counts_in c)) c.vertices

abbrev pub lines_in : Scene → List Float
lines_in c = take (4 * c.neighbours) c.lines

-- ---- what the writer tells, and what the buffer holds then

pub record Written : Type 0 where
  pub told : Fault
  pub size : ℕ
  pub contents : List ℕ

abbrev pub written : Fault → ℕ → List ℕ → Written
written f n l = record { told = f; size = n; contents = l }

abbrev pub written_of : Result ℕ Refusal → List ℕ → Written
written_of (Ok n) l = written fine n l
written_of (Err r) l = written (fault (number_of r)) 0 l

-- the parts' fault, "then 10, which here means a buffer shorter than the record"; without one the record stands at the
-- buffer's start, and behind it what stood there
unfoldable pub laid_scene : Fault → List ℕ → List ℕ → Written
laid_scene f bytes buffer =
    unless_fault (λ r. written (fault r) 0 buffer) (f ⊳ must (leb (length bytes) (length buffer)) 10)
    (written fine (length bytes) (bytes ++ drop (length bytes) buffer))

unfoldable pub written_scene : Cart → ℕ → List ℕ → List ℕ → List Float → ℕ → List Float → List ℕ → Written
written_scene c n ks cs xs m ls buffer = laid_scene (parts_fault c n ks cs xs m ls) (lent_bytes c ks cs xs ls) buffer
