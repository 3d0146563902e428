-- A scene that is known to be admitted, by its parts: nothing is judged again but its sizes. Definitions only. Assumes
-- nothing.
use Rattle.std.specs.Prelude.{ℕ, ◌+◌, ◌/◌, List, [], ◌∷◌, leb, length, Float, Result}
use Rattle.admission.specs.declared.Head.{Head}
use Rattle.admission.specs.declared.refusal.Refusal.{Refusal}
use Rattle.admission.specs.Faults.{Fault, must, ◌⊳◌, unless_fault}
use Rattle.admission.specs.Heads.{most_together}
use Rattle.lines.specs.declared.Origin.{Origin}
use Rattle.lines.specs.Origins.{unknown}
use Rattle.dodgy_2d.specs.declared.BareScene.{BareScene}
use Rattle.dodgy_2d.specs.declared.Scene.{Scene}
use Rattle.dodgy_2d.specs.Scenes.{most_obstacles, most_neighbours, heads_in}
use Rattle.dodgy_2d.specs.Outcomes.{SceneOutcome, refused_scene, first_pass, pass_at}
use Rattle.dodgy_2d.specs.Origins.{pass_origin, last_velocity}
use Rattle.dodgy_2d.specs.Read.{ToldAnswer, scene_answer_as}

-- ---- the parts

-- a scene without its lists
abbrev pub bare_of : Scene → BareScene
bare_of s = record {
  agent = s.agent;
  margin = s.margin;
  horizon = s.horizon;
  wish = s.wish;
  limit = s.limit;
  obstacles = s.obstacles;
  neighbours = s.neighbours;
}

-- and with them: kinds, counts, vertices, lines
abbrev pub scene_from : BareScene → List ℕ → List ℕ → List Float → List Float → Scene
scene_from b ks cs vs ls = record {
  agent = b.agent;
  margin = b.margin;
  horizon = b.horizon;
  wish = b.wish;
  limit = b.limit;
  obstacles = b.obstacles;
  kinds = ks;
  counts = cs;
  vertices = vs;
  neighbours = b.neighbours;
  lines = ls;
}

-- ---- the sizes

-- how many vertices the obstacles have together
unfoldable pub vertex_count : List Head → ℕ
vertex_count [] = 0
vertex_count (h ∷ hs) = h.count + vertex_count hs

-- "At most 16 obstacles, .. 192 [vertices] together, 64 neighbour lines" (4), all of them in the lists (2)
unfoldable pub sizes_fault : Scene → Fault
sizes_fault s =
    must (leb s.obstacles most_obstacles) 4
    ⊳ must (leb (vertex_count (heads_in s)) most_together) 4
    ⊳ must (leb (vertex_count (heads_in s)) (length s.vertices / 2)) 2
    ⊳ must (leb s.neighbours most_neighbours) 4
    ⊳ must (leb s.neighbours (length s.lines / 4)) 2

-- ---- the answer: as `scene_outcome` and `scene_origin` have it, behind another fault

abbrev pub first_answer : Scene → SceneOutcome
first_answer s = first_pass s (pass_at s s.agent.velocity)

abbrev pub last_origin : Scene → Origin
last_origin s = pass_origin s (last_velocity s (pass_at s s.agent.velocity))

unfoldable pub admitted_outcome : Scene → SceneOutcome
admitted_outcome s = unless_fault refused_scene (sizes_fault s) (first_answer s)

unfoldable pub admitted_origin : Scene → Origin
admitted_origin s = unless_fault (λ (r : ℕ). unknown) (sizes_fault s) (last_origin s)

abbrev pub admitted_answer : Scene → Result ToldAnswer Refusal
admitted_answer s = scene_answer_as (admitted_outcome s) (admitted_origin s)
