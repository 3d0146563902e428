-- 01, "Scene: obstacle lines (rigid), then neighbour lines ..": two passes and their outcomes. Definitions only. Assumes nothing.
use Rattle.std.specs.Prelude.{ℕ, ◌+◌, ◌*◌, List, [], ◌∷◌, ◌++◌, length, take, drop, Float}
use Rattle.admission.specs.declared.Head.{Head}
use Rattle.admission.specs.Faults.{unless_fault}
use Rattle.common.specs.declared.Vec2.{Vec2}
use Rattle.common.specs.Vectors.{zero_vector}
use Rattle.lines.specs.declared.Line.{Line}
use Rattle.linear_programming.specs.Whole.{Failed, Outcome, stands, refusal, solving, relaxing, rigid_failure, whole_list}
use Rattle.edges.specs.declared.Agent.{Agent}
use Rattle.obstacles.specs.Vertices.{vertices_of}
use Rattle.obstacles.specs.Obstacles.{Answer, lines, refused, obstacle_lines}
use Rattle.dodgy_2d.specs.declared.Scene.{Scene}
use Rattle.dodgy_2d.specs.Scenes.{heads_in, neighbours_in, scene_fault}

-- the outcome 1 to 5, its velocity, the failed line of the last pass run and the probes of all passes; or the number of a refusal
pub data SceneOutcome : Type 0 where
  outcome : ℕ → Vec2 → Failed → ℕ → SceneOutcome
  refused_scene : ℕ → SceneOutcome

-- ---- the obstacles' lines

abbrev pub joined : Answer → Answer → Answer
joined (lines l) (lines m) = lines (l ++ m)
joined (lines l) (refused r) = refused r
joined (refused r) a = refused r

-- the lines of one obstacle, whose vertices are those from the offset on
abbrev pub lines_at : Agent → Float → Float → List Float → ℕ → Head → Answer
lines_at agent margin horizon vertices offset h =
    obstacle_lines agent h.kind h.count (vertices_of (take (2 * h.count) (drop (2 * offset) vertices))) margin horizon

-- obstacle behind obstacle, each with its vertices behind those of the ones before; the first refusal is told
unfoldable pub edge_lines : Agent → Float → Float → List Float → ℕ → List Head → Answer
edge_lines agent margin horizon vertices offset [] = lines []
edge_lines agent margin horizon vertices offset (h ∷ hs) =
    joined (lines_at agent margin horizon vertices offset h) (edge_lines agent margin horizon vertices (offset + h.count) hs)

-- ---- a pass: "obstacle lines (rigid), then neighbour lines"

abbrev pub solved_over : Vec2 → Float → List Line → Answer → Outcome
solved_over wish limit neighbours (lines l) = whole_list (length l) wish limit (l ++ neighbours)
solved_over wish limit neighbours (refused r) = refusal r

-- the obstacles' lines for a cart that has this velocity
abbrev pub edges_at : Scene → Vec2 → Answer
edges_at s velocity = edge_lines (record { position = s.agent.position; velocity = velocity }) s.margin s.horizon
    s.vertices 0 (heads_in s)

unfoldable pub pass_at : Scene → Vec2 → Outcome
pass_at s velocity = solved_over s.wish s.limit (neighbours_in s) (edges_at s velocity)

abbrev pub at_rest : Vec2
at_rest = zero_vector

-- ---- the outcomes

-- "outcomes 3, 4, and 5 for a second rigid failure, whose point is taken. Probes add over passes; the failed line is
-- that of the last pass run."
abbrev pub second_pass : ℕ → Outcome → SceneOutcome
second_pass n (stands (solving p) f m) = outcome 3 p f (n + m)
second_pass n (stands (relaxing p depth) f m) = outcome 4 p f (n + m)
second_pass n (stands (rigid_failure k p) f m) = outcome 5 p f (n + m)
second_pass n (refusal r) = refused_scene r

-- "First pass success is outcome 1, or 2 if relaxed. Rigid failure makes obstacle lines again with velocity zero"
abbrev pub first_pass : Scene → Outcome → SceneOutcome
first_pass s (stands (solving p) f n) = outcome 1 p f n
first_pass s (stands (relaxing p depth) f n) = outcome 2 p f n
first_pass s (stands (rigid_failure k p) f n) = second_pass n (pass_at s at_rest)
first_pass s (refusal r) = refused_scene r

unfoldable pub scene_outcome : Scene → SceneOutcome
scene_outcome s = unless_fault refused_scene (scene_fault s) (first_pass s (pass_at s s.agent.velocity))
