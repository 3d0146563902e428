-- What is admitted of an agent and of an obstacle whose vertices are lent as numbers: the first fault in the order of a
-- record's fields (01, "What is admitted", "Refusal numbers"; 02, T-11). Definitions only. Assumes nothing.
use Rattle.std.specs.Prelude.{ℕ, zero, suc, ◌*◌, Bool, not, List, [], ◌∷◌, leb, length, take, drop, get_or, Float}
use Rattle.std.specs.Float.{nan}
use Rattle.arithmetic.specs.Binary32.{0ᶠ}
use Rattle.admission.specs.Faults.{Fault, fine, fault, must, ◌⊳◌, within, inside}
use Rattle.admission.specs.declared.Head.{Head}
use Rattle.admission.specs.Heads.{is_kind, room_for, is_empty_open}
use Rattle.common.specs.declared.Vec2.{Vec2}
use Rattle.common.specs.Vectors.{vec, reach, longest}
use Rattle.edges.specs.declared.Agent.{Agent}
use Rattle.edges.specs.Edges.{OuterVertex, shortest_horizon, longest_horizon}
use Rattle.obstacles.specs.Vertices.{vertices_of}
use Rattle.obstacles.specs.Doubled.{follows, none_before, on_vertex, closes}

-- ---- the agent

-- "Position, velocity, wish and vertex components: magnitude at most 65,536"
unfoldable pub vector_fault : Vec2 → Fault
vector_fault v = must (within reach v.x) 6 ⊳ must (within reach v.y) 6

-- position, velocity, margin, horizon
unfoldable pub agent_fault : Agent → Float → Float → Fault
agent_fault agent margin horizon =
    vector_fault agent.position
    ⊳ vector_fault agent.velocity
    ⊳ must (inside 0ᶠ longest margin) 6
    ⊳ must (inside shortest_horizon longest_horizon horizon) 6

-- ---- the vertices: each list is what is left of the numbers

-- "each first for missing bytes (2), then its own rule"
unfoldable pub number_fault : (Float → Bool) → List Float → Fault
number_fault passes [] = fault 2
number_fault passes (x ∷ xs) = must (passes x) 6

unfoldable pub components_fault : List Float → Fault
components_fault xs = number_fault (within reach) xs ⊳ number_fault (within reach) (drop 1 xs)

-- the vertex in front
abbrev pub front_of : List Float → Vec2
front_of xs = vec (get_or xs 0 nan) (get_or xs 1 nan)

-- 02, T-11: "14, at the second vertex of the pair after its own check for 6"
unfoldable pub vertex_fault : OuterVertex → List Float → Fault
vertex_fault before xs = components_fault xs ⊳ must (follows before (front_of xs)) 14

-- as many as n, vertex by vertex, each behind the one before it
unfoldable pub vertices_fault : OuterVertex → ℕ → List Float → Fault
vertices_fault before zero xs = fine
vertices_fault before (suc n) xs = vertex_fault before xs ⊳ vertices_fault (on_vertex before (front_of xs)) n (drop 2 xs)

-- 02, T-11: "the closing pair after the last vertex"
unfoldable pub outline_fault : Head → List Float → Fault
outline_fault h xs = vertices_fault none_before h.count xs ⊳ must (closes h.kind (vertices_of (take (2 * h.count) xs))) 14

-- ---- the obstacle

-- "neither 1 (closed) nor 2 (open)": 3; "64 vertices each, 192 together", behind the total of the obstacles before it:
-- 4; "open obstacle with no vertices": 5
unfoldable pub head_fault : ℕ → Head → Fault
head_fault total h =
    must (is_kind h.kind) 3
    ⊳ must (room_for total h.count) 4
    ⊳ must (not (is_empty_open h.kind h.count)) 5

-- one that is lent alone: no obstacle before it, its vertices, and no number left over (2)
unfoldable pub obstacle_fault : Head → List Float → Fault
obstacle_fault h xs = head_fault 0 h ⊳ outline_fault h xs ⊳ must (leb (length xs) (2 * h.count)) 2
