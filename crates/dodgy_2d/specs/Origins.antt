-- Where the lines of a scene come from (02, T-06). Definitions only. Assumes nothing.
use Rattle.std.specs.Prelude.{ℕ, zero, suc, ◌+◌, ◌*◌, List, [], ◌∷◌, ◌++◌, map, take, drop, get_or, Float}
use Rattle.admission.specs.declared.Head.{Head}
use Rattle.admission.specs.Faults.{unless_fault}
use Rattle.common.specs.declared.Vec2.{Vec2}
use Rattle.lines.specs.declared.Origin.{Origin}
use Rattle.lines.specs.Origins.{unknown, edge_origin, neighbour_origin}
use Rattle.linear_programming.specs.Whole.{Outcome, stands, refusal, solving, relaxing, rigid_failure, no_line, failed_line}
use Rattle.edges.specs.declared.Agent.{Agent}
use Rattle.obstacles.specs.Vertices.{vertices_of}
use Rattle.obstacles.specs.Obstacles.{obstacle_edges}
use Rattle.dodgy_2d.specs.declared.Scene.{Scene}
use Rattle.dodgy_2d.specs.Scenes.{heads_in, scene_fault}
use Rattle.dodgy_2d.specs.Outcomes.{at_rest, pass_at}

-- ---- the lines of a pass

-- for each line of one obstacle "edge (by its left vertex)"; the obstacle's vertices are those from the offset on
abbrev pub lefts_at : Agent → Float → Float → List Float → ℕ → Head → List ℕ
lefts_at agent margin horizon vertices offset h =
    obstacle_edges agent h.kind h.count (vertices_of (take (2 * h.count) (drop (2 * offset) vertices))) margin horizon

-- with the obstacle's place
abbrev pub origins_at : Agent → Float → Float → List Float → ℕ → ℕ → Head → List Origin
origins_at agent margin horizon vertices place offset h = map (edge_origin place) (lefts_at agent margin horizon vertices offset h)

-- obstacle behind obstacle, "as places counted from 0"
unfoldable pub edge_origins : Agent → Float → Float → List Float → ℕ → ℕ → List Head → List Origin
edge_origins agent margin horizon vertices place offset [] = []
edge_origins agent margin horizon vertices place offset (h ∷ hs) =
    origins_at agent margin horizon vertices place offset h ++ edge_origins agent margin horizon vertices (place + 1)
    (offset + h.count) hs

-- so many neighbours from a place on
unfoldable pub neighbours_from : ℕ → ℕ → List Origin
neighbours_from place zero = []
neighbours_from place (suc n) = neighbour_origin place ∷ neighbours_from (place + 1) n

-- those of the obstacles' lines, for a cart that has this velocity
abbrev pub edge_origins_at : Scene → Vec2 → List Origin
edge_origins_at s velocity =
    edge_origins (record { position = s.agent.position; velocity = velocity }) s.margin s.horizon
    s.vertices 0 0 (heads_in s)

-- "obstacle lines (rigid), then neighbour lines"
abbrev pub pass_origins : Scene → Vec2 → List Origin
pass_origins s velocity = edge_origins_at s velocity ++ neighbours_from 0 s.neighbours

-- ---- the failed line's

abbrev pub failed_origin : List Origin → Outcome → Origin
failed_origin origins (stands ph (failed_line f) n) = get_or origins f.index unknown
failed_origin origins (stands ph no_line n) = unknown
failed_origin origins (refusal r) = unknown

unfoldable pub pass_origin : Scene → Vec2 → Origin
pass_origin s velocity = failed_origin (pass_origins s velocity) (pass_at s velocity)

-- the velocity of the last pass run, by how the first one came out: "Rigid failure makes obstacle lines again with velocity zero"
abbrev pub last_velocity : Scene → Outcome → Vec2
last_velocity s (stands (rigid_failure k p) f n) = at_rest
last_velocity s (stands (solving p) f n) = s.agent.velocity
last_velocity s (stands (relaxing p depth) f n) = s.agent.velocity
last_velocity s (refusal r) = s.agent.velocity

-- "A scene answer can be asked for the origin of its failed line", which "is that of the last pass run"
unfoldable pub scene_origin : Scene → Origin
scene_origin s = unless_fault (λ (r : ℕ). unknown) (scene_fault s) (pass_origin s (last_velocity s (pass_at s s.agent.velocity)))
