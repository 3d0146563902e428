-- What is known of the origin of a scene's failed line, outcome by outcome (02, T-06). Definitions only. Assumes nothing.
use Rattle.std.specs.Prelude.{ℕ, ◌<◌, get_or}
use Rattle.common.specs.declared.Vec2.{Vec2}
use Rattle.lines.specs.declared.Origin.{Origin}
use Rattle.lines.specs.Origins.{unknown, edge_origin, neighbour_origin}
use Rattle.pass_2d.specs.Pass.{Failure}
use Rattle.linear_programming.specs.Whole.{no_line, failed_line}
use Rattle.obstacles.specs.Obstacles.{edge_count}
use Rattle.dodgy_2d.specs.declared.Scene.{Scene}
use Rattle.dodgy_2d.specs.Outcomes.{SceneOutcome, outcome, refused_scene}

-- an edge, by its left vertex, of an obstacle of the scene
pub data EdgeOf (s : Scene) : Origin → Type 0 where
  edge_of : {place left : ℕ} → place < s.obstacles →
      left < edge_count (get_or s.kinds place 0) (get_or s.counts place 0) → EdgeOf s (edge_origin place left)

-- a neighbour of the scene
pub data NeighbourOf (s : Scene) : Origin → Type 0 where
  neighbour-of : {place : ℕ} → place < s.neighbours → NeighbourOf s (neighbour_origin place)

-- where a pass relaxes, a neighbour's line failed; where it fails rigidly, an edge's; else none did
pub data Known (s : Scene) : SceneOutcome → Origin → Type 0 where
  solved-first : {p : Vec2} {n : ℕ} → Known s (outcome 1 p no_line n) unknown
  relaxed-first : {p : Vec2} {f : Failure} {n : ℕ} {o : Origin} → NeighbourOf s o → Known s (outcome 2 p (failed_line f) n) o
  solved-again : {p : Vec2} {n : ℕ} → Known s (outcome 3 p no_line n) unknown
  relaxed-again : {p : Vec2} {f : Failure} {n : ℕ} {o : Origin} → NeighbourOf s o → Known s (outcome 4 p (failed_line f) n) o
  failed-again : {p : Vec2} {f : Failure} {n : ℕ} {o : Origin} → EdgeOf s o → Known s (outcome 5 p (failed_line f) n) o
  refused-known : {r : ℕ} → Known s (refused_scene r) unknown
