-- A scene's parts, and its first fault in the order of the record's fields (01, "What is admitted", "Refusal numbers",
-- "Records"). Definitions only. Assumes nothing.
use Rattle.std.specs.Prelude.{ℕ, ◌+◌, ◌*◌, List, [], ◌∷◌, leb, take, drop, Float}
use Rattle.arithmetic.specs.Binary32.{0ᶠ}
use Rattle.admission.specs.declared.Head.{Head}
use Rattle.admission.specs.Faults.{Fault, fine, must, ◌⊳◌, inside}
use Rattle.admission.specs.Heads.{head_of}
use Rattle.common.specs.Vectors.{longest}
use Rattle.lines.specs.declared.Line.{Line}
use Rattle.lines.specs.Lines.{lines_of}
use Rattle.lines.specs.LineFaults.{lines_fault}
use Rattle.obstacles.specs.ObstacleFaults.{vector_fault, agent_fault, head_fault, outline_fault}
use Rattle.dodgy_2d.specs.declared.Scene.{Scene}

-- "At most 16 obstacles", "64 neighbour lines"
abbrev pub most_obstacles : ℕ
most_obstacles = 16

abbrev pub most_neighbours : ℕ
most_neighbours = 64

-- ---- the parts

-- the obstacles' heads
unfoldable pub heads_of : List ℕ → List ℕ → List Head
heads_of [] cs = []
heads_of (k ∷ ks) [] = []
heads_of (k ∷ ks) (c ∷ cs) = head_of k c ∷ heads_of ks cs

abbrev pub heads_in : Scene → List Head
heads_in s = heads_of (take s.obstacles s.kinds) (take s.obstacles s.counts)

-- the neighbours' lines
abbrev pub neighbours_in : Scene → List Line
neighbours_in s = take s.neighbours (lines_of s.lines)

-- ---- the first fault

-- position, velocity, margin, horizon, wish, limit
unfoldable pub cart_fault : Scene → Fault
cart_fault s = agent_fault s.agent s.margin s.horizon ⊳ vector_fault s.wish ⊳ must (inside 0ᶠ longest s.limit) 6

-- each obstacle's head, behind the running total of vertices, then its own vertices, none doubled, then the obstacles behind it
unfoldable pub obstacles_fault : ℕ → List Head → List Float → Fault
obstacles_fault total [] xs = fine
obstacles_fault total (h ∷ hs) xs =
    head_fault total h ⊳ outline_fault h xs ⊳ obstacles_fault (total + h.count) hs (drop (2 * h.count) xs)

unfoldable pub scene_fault : Scene → Fault
scene_fault s =
    cart_fault s
    ⊳ must (leb s.obstacles most_obstacles) 4
    ⊳ obstacles_fault 0 (heads_in s) s.vertices
    ⊳ must (leb s.neighbours most_neighbours) 4
    ⊳ lines_fault (neighbours_in s)
