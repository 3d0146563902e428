-- Types of the code there and back: what one says can be turned back, so two answers that one promise allows are the
-- same. Assumes nothing.
use mathlib.Core.Path.{◌≡◌, refl}
use Rattle.std.specs.Prelude.{Option, Some, None, Result, Ok, Err}
use Rattle.admission.specs.declared.refusal.Refusal.{Refusal}
use Rattle.admission.proofs.FaultLaws.{refusal-back}
use Rattle.arithmetic.proofs.Agree.{agree-read}
use Rattle.pass_2d.specs.declared.Failure.{Failure}
use Rattle.pass_2d.proofs.Agreement.{failure-back, failure-there}
use Rattle.linear_programming.specs.declared.Phase.{Phase as PhaseCode}
use Rattle.linear_programming.specs.declared.Phase.TheVariants as phase
use Rattle.linear_programming.specs.declared.Standing.{Standing}
use Rattle.linear_programming.specs.Whole.{Phase, solving, relaxing, rigid_failure, Failed, no_line, failed_line, Outcome}
use Rattle.linear_programming.specs.Read.{phase_of, phase_as, failed_of, failed_as, outcome_of, answer_as}

pub phase-back : (p : PhaseCode) → phase_as (phase_of p) ≡ p
phase-back (phase.Solving p) = refl
phase-back (phase.Relaxing p depth) = refl
phase-back (phase.RigidFailure k p) = refl

pub failed-back : (f : Option Failure) → failed_as (failed_of f) ≡ f
failed-back None = refl
failed-back (Some f) = rw (failure-back f)

pub phase-there : (p : Phase) → phase_of (phase_as p) ≡ p
phase-there (solving p) = refl
phase-there (relaxing p depth) = refl
phase-there (rigid_failure k p) = refl

pub failed-there : (f : Failed) → failed_of (failed_as f) ≡ f
failed-there no_line = refl
failed-there (failed_line f) = rw (failure-there f)

answer_back : (a : Result Standing Refusal) → answer_as (outcome_of a) ≡ a
answer_back (Ok s) = rw (phase-back s.phase, failed-back s.failed)
answer_back (Err r) = rw (refusal-back r)

pub answers_agree : {one other : Result Standing Refusal} {promised : Outcome} → outcome_of one ≡ promised →
    outcome_of other ≡ promised → one ≡ other
answers_agree = agree-read outcome_of answer_as answer_back
