-- What a scene's answer says, in 01's outcomes and numbers. Definitions only. Assumes nothing.
use Rattle.std.specs.Prelude.{ℕ, ◌+◌, ◌*◌, ◌≤◌, ◌≡◌, List, map, take, eqb, Float, Result, Ok, Err}
use Rattle.arithmetic.specs.Binary32.{when◌then◌else◌}
use Rattle.admission.specs.declared.refusal.Refusal.{Refusal}
use Rattle.admission.specs.Refusals.{number_of, refusal_of}
use Rattle.common.specs.declared.Vec2.{Vec2}
use Rattle.lines.specs.Lines.{lines_of}
use Rattle.lines.specs.declared.Origin.{Origin}
use Rattle.lines.specs.Origins.{unknown, edge_origin}
use Rattle.linear_programming.specs.Whole.{Outcome as ListOutcome, refusal}
use Rattle.linear_programming.specs.Read.{failed_of, failed_as, outcome_of as list_outcome_of}
use Rattle.dodgy_2d.specs.declared.Outcome.{Outcome}
use Rattle.dodgy_2d.specs.declared.Outcome.TheVariants as code
use Rattle.dodgy_2d.specs.declared.edge_lines.Wall.{Wall}
use Rattle.dodgy_2d.specs.declared.passes.Passed.{Passed}
use Rattle.obstacles.specs.Obstacles.{Answer, lines, refused}
use Rattle.dodgy_2d.specs.declared.Scene.{Scene}
use Rattle.dodgy_2d.specs.declared.SceneAnswer.{SceneAnswer}
use Rattle.dodgy_2d.specs.Scenes.{neighbours_in}
use Rattle.dodgy_2d.specs.Outcomes.{SceneOutcome, outcome, refused_scene, joined, edges_at}
use Rattle.dodgy_2d.specs.Origins.{edge_origins_at}

-- the outcome's number, and back; the last is only told of its own
abbrev pub code_of : Outcome → ℕ
code_of code.Solved = 1
code_of code.Relaxed = 2
code_of code.SolvedAtRest = 3
code_of code.RelaxedAtRest = 4
code_of code.FailedAtRest = 5

abbrev pub code_as : ℕ → Outcome
code_as n =
    when eqb n 1 then code.Solved
    else when eqb n 2 then code.Relaxed
    else when eqb n 3 then code.SolvedAtRest
    else when eqb n 4 then code.RelaxedAtRest
    else code.FailedAtRest

-- an answer with one of the five
abbrev pub ToldAnswer : Type 0
ToldAnswer = SceneAnswer Outcome

abbrev pub outcome_of : Result ToldAnswer Refusal → SceneOutcome
outcome_of (Ok a) = outcome (code_of a.outcome) a.velocity (failed_of a.failed) a.probes
outcome_of (Err r) = refused_scene (number_of r)

-- whatever the outcome and the refusal are
abbrev pub origin_of : {O E : Type 0} → Result (SceneAnswer O) E → Origin
origin_of (Ok a) = a.origin
origin_of (Err r) = unknown

-- a pass's outcome, and the origin of its failed line
abbrev pub pass_of : Result Passed Refusal → ListOutcome
pass_of (Ok p) = list_outcome_of (Ok p.standing)
pass_of (Err r) = refusal (number_of r)

abbrev pub pass_origin_of : Result Passed Refusal → Origin
pass_origin_of (Ok p) = p.origin
pass_origin_of (Err r) = unknown

-- the obstacles' lines in lent numbers, with what is said of them; and how many they are
abbrev pub edges_of : Result ℕ Refusal → List Float → Answer
edges_of (Ok n) numbers = lines (lines_of (take (4 * n) numbers))
edges_of (Err r) numbers = refused (number_of r)

abbrev pub count_in : Result ℕ Refusal → ℕ
count_in (Ok n) = n
count_in (Err r) = 0

-- the origins of the first n lines, whose walls are noted: the obstacle's place, and the left vertex
abbrev pub walls_in : ℕ → List Wall → List Origin
walls_in n walls = map (λ (w : Wall). edge_origin w.place w.vertex) (take n walls)

-- they are these, where the obstacles' lines are not refused
pub data WallsAre (walls : List Wall) (origins : List Origin) : Result ℕ Refusal → Type 0 where
  counted : {n : ℕ} → walls_in n walls ≡ origins → WallsAre walls origins (Ok n)
  none_told : {r : Refusal} → WallsAre walls origins (Err r)

-- with so many neighbours' lines behind the obstacles'
abbrev pub all_of : ℕ → Result ℕ Refusal → List Float → Answer
all_of neighbours (Ok n) numbers = lines (lines_of (take (4 * (n + neighbours)) numbers))
all_of neighbours (Err r) numbers = refused (number_of r)

-- a pass's lines stand in lent numbers, "obstacle lines (rigid), then neighbour lines", and the rigid ones' walls are noted
pub record Chosen (s : Scene) (velocity : Vec2) (numbers : List Float) (walls : List Wall) (r : Result ℕ Refusal) : Type 0 where
  pub few : count_in r ≤ 192
  pub rigid : edges_of r numbers ≡ edges_at s velocity
  pub all : all_of s.neighbours r numbers ≡ joined (edges_at s velocity) (lines (neighbours_in s))
  pub noted : WallsAre walls (edge_origins_at s velocity) r

-- and back: what says an outcome and the failed line's origin
abbrev pub scene_answer_as : SceneOutcome → Origin → Result ToldAnswer Refusal
scene_answer_as (outcome code p f n) o =
    Ok (record { outcome = code_as code; velocity = p; failed = failed_as f; probes = n; origin = o })
scene_answer_as (refused_scene r) o = Err (refusal_of r)
