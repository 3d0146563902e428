-- A scene's answer there and back: what it says makes it whole again, and is what was to be said. Assumes nothing.
use mathlib.Core.Path.{◌≡◌, refl, sym, ap, ◌∙◌}
use Rattle.std.specs.Prelude.{Result, Ok, Err}
use Rattle.arithmetic.specs.Binary32.{when◌then◌else◌}
use Rattle.admission.specs.declared.refusal.Refusal.{Refusal}
use Rattle.admission.proofs.FaultLaws.{refusal-back}
use Rattle.lines.specs.declared.Origin.{Origin}
use Rattle.linear_programming.proofs.Agreement.{failed-back}
use Rattle.dodgy_2d.specs.declared.Outcome.{Outcome}
use Rattle.dodgy_2d.specs.declared.Outcome.TheVariants as code
use Rattle.dodgy_2d.specs.Outcomes.{SceneOutcome}
use Rattle.dodgy_2d.specs.Read.{ToldAnswer, code_of, code_as, outcome_of, origin_of, scene_answer_as}

pub code-back : (o : Outcome) → code_as (code_of o) ≡ o
unfolding when◌then◌else◌
code-back code.Solved = refl
code-back code.Relaxed = refl
code-back code.SolvedAtRest = refl
code-back code.RelaxedAtRest = refl
code-back code.FailedAtRest = refl

answer_back : (a : Result ToldAnswer Refusal) → scene_answer_as (outcome_of a) (origin_of a) ≡ a
answer_back (Ok a) = rw (code-back a.outcome, failed-back a.failed)
answer_back (Err r) = rw (refusal-back r)

-- and an outcome that an answer says is said by the one that is made of it
pub outcome-said : (a : Result ToldAnswer Refusal) (o : SceneOutcome) (from : Origin) → outcome_of a ≡ o →
    outcome_of (scene_answer_as o from) ≡ o
outcome-said a o from e = ap (λ (p : SceneOutcome). outcome_of (scene_answer_as p from)) (sym e) ∙ again a ∙ e
  where
    again : (b : Result ToldAnswer Refusal) → outcome_of (scene_answer_as (outcome_of b) from) ≡ outcome_of b
    again (Ok b) = rw (code-back b.outcome, failed-back b.failed)
    again (Err r) = rw (refusal-back r)

-- an answer is the one that says this outcome and this origin
pub said : {a : Result ToldAnswer Refusal} (o : SceneOutcome) (from : Origin) → outcome_of a ≡ o → origin_of a ≡ from →
    a ≡ scene_answer_as o from
said {a} o from e f = sym (answer_back a) ∙ rw (e, f)
