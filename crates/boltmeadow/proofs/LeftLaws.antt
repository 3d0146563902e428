-- What a call of `boltmeadow` leaves, by what the function that it calls leaves. Assumes nothing.
use Prim.Native.Nat.{ℕ}
use mathlib.Core.Path.{◌≡◌, refl, sym, ap, ◌∙◌}
use mathlib.Core.List.{List}
use native.Mathlib.Omega.{arith}
use Rattle.std.specs.Prelude.{Result, Ok, Err}
use Rattle.admission.specs.declared.refusal.Refusal.{Refusal}
use Rattle.admission.specs.Refusals.{number_of}
use Rattle.admission.specs.Faults.{Fault}
use Rattle.answer_records.specs.Numbers.{numbered}
use Rattle.linear_programming.specs.declared.Standing.{Standing as ListStanding}
use Rattle.linear_programming.specs.Whole.{Outcome}
use Rattle.linear_programming.specs.Read.{outcome_of}
use Rattle.linear_programming.proofs.Agreement.{phase-back, failed-back}
use Rattle.obstacles.specs.declared.ObstacleLines.{ObstacleLines}
use Rattle.obstacles.specs.Obstacles as obstacle
use Rattle.obstacles.specs.Read.{answer_as, told_of, fault_in}
use Rattle.dodgy_2d.specs.Outcomes.{SceneOutcome}
use Rattle.dodgy_2d.specs.Read.{ToldAnswer, outcome_of as scene_outcome_of}
use Rattle.records.specs.Answered.{Solved, solved}
use Rattle.scene_writer.specs.Writing.{Written, written_of}
use Rattle.index_building.specs.Indexes.{Standing, standing}
use Rattle.fields.specs.Got.{Got, refused, got}
use Rattle.scene_records.specs.declared.NumberedScene.{NumberedScene}
use Rattle.scene_records.specs.Steps.{RefusedAs}
use Rattle.scene_records.specs.Versions.{Numbered, numbered_as}
use Rattle.boltmeadow.specs.Lists.{standing_by, standing_told}
use Rattle.boltmeadow.specs.Layouts.{no_obstacle, lines_told, obstacle_told}
use Rattle.boltmeadow.specs.declared.scenes.BmScene.{BmScene}
use Rattle.boltmeadow.specs.declared.scenes.BmAnswer.{BmAnswer}
use Rattle.boltmeadow.specs.declared.scenes.BmWritten.{BmWritten}
use Rattle.boltmeadow.specs.Scenes.{outcome_with, refused_scene, answer_told, numbers_of, numbers_told, answer_left, scene_by, no_scene, scene_told, number_told, written_told, written_left}
use Rattle.boltmeadow.specs.Logs.{index_told, index_left}

-- a list's answer, told by the outcome that it says
pub stands-told : (s : ListStanding) {o : Outcome} → outcome_of (Ok s) ≡ o → standing_by s.phase s.failed s.probes ≡ standing_told o
stands-told s e =
    sym (rw (phase-back s.phase, failed-back s.failed)) ∙ ap standing_told e

-- a scene that was read, or its refusal, told by what the bytes are
abbrev scene_handed : Result NumberedScene Refusal → BmScene
scene_handed (Ok r) = scene_by r.scene r.numbers
scene_handed (Err r) = no_scene (number_of r)

number_in : Got Numbered → ℕ
number_in (got x at) = 0
number_in (refused r) = r

pub scene-told : (r : Result NumberedScene Refusal) (g : Got Numbered) → r ≡ numbered_as g → RefusedAs r g → scene_handed r ≡ scene_told g
unfolding number_in
scene-told (Ok v) (got x at) e told = ap scene_handed e
scene-told (Ok v) (refused n) e told = let z : ◌≡◌ {A = ℕ} 0 1 = cc in absurd (omega arith)
scene-told (Err q) (got x at) e told = let z : ◌≡◌ {A = ℕ} 0 1 = cc in absurd (omega arith)
scene-told (Err q) (refused n) e told = sym (ap (λ (g : Got Numbered). no_scene (number_in g)) told)

-- an obstacle's lines, or the number of a refusal, told by the definition's answer
pub lines-told : (a : Result ObstacleLines Refusal) (o : obstacle.Answer) → a ≡ answer_as o → told_of a ≡ fault_in o →
    lines_told a ≡ obstacle_told o
lines-told a (obstacle.lines ls) e told = ap lines_told e
lines-told (Ok v) (obstacle.refused n) e told = let z : ◌≡◌ {A = ℕ} 0 1 = cc in absurd (omega arith)
lines-told (Err r) (obstacle.refused n) e told = ap (λ (f : Fault). no_obstacle (number_told f)) told

-- a record's answer has the numbers of the outcome that it says
numbers_kept : (a : Result ToldAnswer Refusal) → numbers_of (answer_told a) ≡ numbers_told (scene_outcome_of a)
unfolding outcome_with refused_scene
numbers_kept (Ok v) = refl
numbers_kept (Err r) = refl

pub numbers-told : (a : Result ToldAnswer Refusal) {o : SceneOutcome} {r : BmAnswer} → r ≡ answer_told a →
    scene_outcome_of a ≡ o → numbers_of r ≡ numbers_told o
numbers-told a t e = ap numbers_of t ∙ numbers_kept a ∙ ap numbers_told e

-- value and contents of a lent buffer

pub answer-left : {a : Result ToldAnswer Refusal} {l : List ℕ} {s : Solved} {r : BmAnswer} → r ≡ answer_told a →
    solved a l ≡ s → standing r l ≡ answer_left s
answer-left {a} {l} t e = ap (λ (b : BmAnswer). standing b l) t ∙ ap answer_left e

same_told : (a : Result ℕ Refusal) → written_told a ≡ index_told (numbered a)
unfolding written_told index_told
same_told (Ok n) = refl
same_told (Err r) = refl

pub index-left : (a : Result ℕ Refusal) {l : List ℕ} {s : Standing (Result ℕ ℕ)} {r : BmWritten} → r ≡ written_told a →
    standing (numbered a) l ≡ s → standing r l ≡ index_left s
unfolding index_left
index-left a {l} t e = ap (λ (b : BmWritten). standing b l) (t ∙ same_told a) ∙ ap index_left e

pub written-left : (a : Result ℕ Refusal) {l : List ℕ} {w : Written} {r : BmWritten} → r ≡ written_told a →
    written_of a l ≡ w → standing r l ≡ written_left w
unfolding written_told written_left
written-left (Ok n) {l} t e = ap (λ (b : BmWritten). standing b l) t ∙ ap written_left e
written-left (Err r) {l} t e = ap (λ (b : BmWritten). standing b l) t ∙ ap written_left e
