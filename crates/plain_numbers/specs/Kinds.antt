-- Phases, causes and failed lines as plain numbers, and back. Definitions only. Assumes nothing.
use Rattle.std.specs.Prelude.{ℕ, Option, Some, None, eqb, Float}
use Rattle.arithmetic.specs.Binary32.{when◌then◌else◌}
use Rattle.common.specs.Vectors.{vec}
use Rattle.one_line.specs.declared.Cause.{Cause}
use Rattle.one_line.specs.declared.Cause.TheVariants as cause
use Rattle.linear_programming.specs.declared.Phase.{Phase}
use Rattle.linear_programming.specs.declared.Phase.TheVariants as phase
use Rattle.pass_2d.specs.declared.Failure.{Failure}

-- 0 solving, 1 relaxing, 2 a rigid failure
abbrev pub phase_kind : Phase → ℕ
phase_kind (phase.Solving p) = 0
phase_kind (phase.Relaxing p depth) = 1
phase_kind (phase.RigidFailure k p) = 2

abbrev pub phase_index : Phase → ℕ
phase_index (phase.Solving p) = 0
phase_index (phase.Relaxing p depth) = 0
phase_index (phase.RigidFailure k p) = k

-- 1 the circle, 2 a parallel line, 3 crossing ends
abbrev pub cause_kind : Cause → ℕ
cause_kind cause.Circle = 1
cause_kind (cause.Parallel k) = 2
cause_kind (cause.Crossing k) = 3

abbrev pub cause_line : Cause → ℕ
cause_line cause.Circle = 0
cause_line (cause.Parallel k) = k
cause_line (cause.Crossing k) = k

-- the failed line's cause, 0 where none failed; its index; the earlier line that the cause names
abbrev pub failed_kind : Option Failure → ℕ
failed_kind None = 0
failed_kind (Some f) = cause_kind f.cause

abbrev pub failed_index : Option Failure → ℕ
failed_index None = 0
failed_index (Some f) = f.index

abbrev pub failed_cause : Option Failure → ℕ
failed_cause None = 0
failed_cause (Some f) = cause_line f.cause

-- and back: any other number is the last kind
unfoldable pub phase_in : ℕ → ℕ → Float → Float → Float → Phase
phase_in kind k x y depth = when eqb kind 0 then phase.Solving (vec x y) else
    (when eqb kind 1 then phase.Relaxing (vec x y) depth else phase.RigidFailure k (vec x y))

unfoldable pub cause_in : ℕ → ℕ → Cause
cause_in kind k = when eqb kind 1 then cause.Circle else (when eqb kind 2 then cause.Parallel k else cause.Crossing k)

unfoldable pub failed_in : ℕ → ℕ → ℕ → Option Failure
failed_in kind index k = when eqb kind 0 then None else Some (record {
  index = index;
  cause = cause_in kind k;
})
