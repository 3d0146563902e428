-- What the types of the code say, in 01's values and numbers. Definitions only. Assumes nothing.
use Rattle.std.specs.Prelude.{Option, Some, None, Result, Ok, Err}
use Rattle.admission.specs.declared.refusal.Refusal.{Refusal}
use Rattle.admission.specs.Refusals.{number_of, refusal_of}
use Rattle.pass_2d.specs.declared.Failure.{Failure}
use Rattle.pass_2d.specs.Read.{failure_of, failure_as}
use Rattle.linear_programming.specs.declared.Phase.{Phase as PhaseCode}
use Rattle.linear_programming.specs.declared.Phase.TheVariants as phase
use Rattle.linear_programming.specs.declared.Standing.{Standing}
use Rattle.linear_programming.specs.Whole.{Phase, solving, relaxing, rigid_failure, Failed, no_line, failed_line, Outcome, stands, refusal}

abbrev pub phase_of : PhaseCode → Phase
phase_of (phase.Solving p) = solving p
phase_of (phase.Relaxing p depth) = relaxing p depth
phase_of (phase.RigidFailure k p) = rigid_failure k p

abbrev pub failed_of : Option Failure → Failed
failed_of None = no_line
failed_of (Some f) = failed_line (failure_of f)

abbrev pub outcome_of : Result Standing Refusal → Outcome
outcome_of (Ok s) = stands (phase_of s.phase) (failed_of s.failed) s.probes
outcome_of (Err r) = refusal (number_of r)

-- ---- and back: what says a phase, a failed line, an outcome

abbrev pub phase_as : Phase → PhaseCode
phase_as (solving p) = phase.Solving p
phase_as (relaxing p depth) = phase.Relaxing p depth
phase_as (rigid_failure k p) = phase.RigidFailure k p

abbrev pub failed_as : Failed → Option Failure
failed_as no_line = None
failed_as (failed_line f) = Some (failure_as f)

abbrev pub answer_as : Outcome → Result Standing Refusal
answer_as (stands p f n) = Ok (record { phase = phase_as p; failed = failed_as f; probes = n })
answer_as (refusal r) = Err (refusal_of r)
