-- The lines of one obstacle: all its edges in order, alone and behind its faults (01, "Rules of the edges", "Refusal
-- numbers"). Definitions only. Assumes nothing.
use Rattle.std.specs.Prelude.{ℕ, zero, suc, ◌-◌, ◌/◌, List, [], ◌∷◌, ◌++◌, eqb, ltb, length, Option, Some, None, Float}
use Rattle.arithmetic.specs.Binary32.{when◌then◌else◌}
use Rattle.common.specs.declared.Vec2.{Vec2}
use Rattle.lines.specs.declared.Line.{Line}
use Rattle.lines.specs.LineFaults.{line_fault}
use Rattle.admission.specs.Faults.{◌⊳◌, unless_fault}
use Rattle.admission.specs.Heads.{head_of, open_kind}
use Rattle.edges.specs.declared.Agent.{Agent}
use Rattle.edges.specs.Edges.{EdgeLine, nothing, made}
use Rattle.obstacles.specs.ObstacleFaults.{agent_fault, obstacle_fault}
use Rattle.obstacles.specs.Vertices.{vertices_of, edge_at}
use Rattle.edges.specs.EdgeLines.{line_for_edge}

-- an obstacle's lines in order, or the number of its refusal
pub data Answer : Type 0 where
  lines : List Line → Answer
  refused : ℕ → Answer

-- an edge's line after the admission of lines
pub data Admitted : Type 0 where
  kept : Line → Admitted
  nothing_kept : Admitted
  not_admitted : ℕ → Admitted

-- "a produced edge line breaks the admission of lines": 9, whatever fault it has
unfoldable pub admitted : EdgeLine → Admitted
admitted nothing = nothing_kept
admitted (made l) = unless_fault (λ (r : ℕ). not_admitted 9) (line_fault l) (kept l)

-- the line stands behind those made earlier
abbrev pub behind : List Line → Admitted → Answer
behind ls (kept l) = lines (ls ++ (l ∷ []))
behind ls nothing_kept = lines ls
behind ls (not_admitted r) = refused r

-- one edge more of n vertices: it sees the lines of the edges before it, and a refusal stays
unfoldable pub add_edge : Agent → ℕ → ℕ → List Vec2 → Float → Float → Answer → ℕ → Answer
add_edge agent kind n vs margin horizon (lines ls) i =
    behind ls (admitted (line_for_edge agent (edge_at kind n vs i) margin horizon ls))
add_edge agent kind n vs margin horizon (refused r) i = refused r

-- what the first k edges make
unfoldable pub lines_up_to : Agent → ℕ → ℕ → List Vec2 → Float → Float → ℕ → Answer
lines_up_to agent kind n vs margin horizon zero = lines []
lines_up_to agent kind n vs margin horizon (suc k) =
    add_edge agent kind n vs margin horizon (lines_up_to agent kind n vs margin horizon k) k

-- as many edges as vertices where the obstacle is closed, one less where it is open: "Closed with no vertices and open
-- with one give no line"
unfoldable pub edge_count : ℕ → ℕ → ℕ
edge_count kind n = when eqb kind open_kind then (n - 1) else n

-- the ends of the edge from the vertex i to the next, left and right; or there is no such edge
unfoldable pub ends_of : ℕ → List Float → ℕ → Option (Vec2 × Vec2)
ends_of kind xs i =
    let n = length xs / 2 in
    let edge = edge_at kind n (vertices_of xs) i in
    when ltb i (edge_count kind n) then Some (edge.left.point, edge.right.point) else None

-- n is how many vertices there are
unfoldable pub obstacle_lines : Agent → ℕ → ℕ → List Vec2 → Float → Float → Answer
obstacle_lines agent kind n vs margin horizon = lines_up_to agent kind n vs margin horizon (edge_count kind n)

-- ---- 02, T-06: "obstacle and edge (by its left vertex)", for each line in order

-- the edge i, where its line is kept
abbrev pub maker : ℕ → Admitted → List ℕ
maker i (kept l) = i ∷ []
maker i nothing_kept = []
maker i (not_admitted r) = []

-- the edge i behind what the edges before it made
abbrev pub maker_behind : Agent → ℕ → ℕ → List Vec2 → Float → Float → Answer → ℕ → List ℕ
maker_behind agent kind n vs margin horizon (lines ls) i =
    maker i (admitted (line_for_edge agent (edge_at kind n vs i) margin horizon ls))
maker_behind agent kind n vs margin horizon (refused r) i = []

-- the left vertices of those of the first k edges that make a line
unfoldable pub makers_up_to : Agent → ℕ → ℕ → List Vec2 → Float → Float → ℕ → List ℕ
makers_up_to agent kind n vs margin horizon zero = []
makers_up_to agent kind n vs margin horizon (suc k) =
    makers_up_to agent kind n vs margin horizon k ++ maker_behind agent kind n vs margin horizon
    (lines_up_to agent kind n vs margin horizon k) k

unfoldable pub obstacle_edges : Agent → ℕ → ℕ → List Vec2 → Float → Float → List ℕ
obstacle_edges agent kind n vs margin horizon = makers_up_to agent kind n vs margin horizon (edge_count kind n)

-- ---- the calls

-- one edge's line behind lines that stand, with nothing judged; or there is no such edge
unfoldable pub line_alone : Agent → ℕ → List Float → ℕ → Float → Float → List Line → Admitted
line_alone agent kind xs i margin horizon ls =
    let n = length xs / 2 in
    when ltb i (edge_count kind n) then admitted (line_for_edge agent (edge_at kind n (vertices_of xs) i) margin horizon ls)
    else nothing_kept

-- the agent's first fault, then the obstacle's, then its lines
unfoldable pub obstacle_call : Agent → ℕ → List Float → ℕ → Float → Float → Answer
obstacle_call agent kind xs count margin horizon =
    unless_fault refused (agent_fault agent margin horizon ⊳ obstacle_fault (head_of kind count) xs)
    (obstacle_lines agent kind count (vertices_of xs) margin horizon)
