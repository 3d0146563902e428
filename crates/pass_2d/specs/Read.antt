-- What a failure and a pass of the code say, in 01's values and numbers, and back. Definitions only. Assumes nothing.
use Rattle.std.specs.Prelude.{ℕ, Result, Ok, Err}
use Rattle.admission.specs.declared.refusal.Refusal.{Refusal}
use Rattle.admission.specs.Refusals.{number_of, refusal_of}
use Rattle.one_line.specs.Read.{cause_of, cause_as}
use Rattle.pass_2d.specs.declared.Failure.{Failure as FailureCode}
use Rattle.pass_2d.specs.declared.LinearProgram2D.{LinearProgram2D}
use Rattle.pass_2d.specs.declared.LinearProgram2D.TheVariants as lp2d
use Rattle.pass_2d.specs.Pass.{Failure, Pass, feasible, failed, refused}

-- what a failure carries
abbrev pub failure_of : FailureCode → Failure
failure_of f = record { index = f.index; cause = cause_of f.cause }

abbrev pub pass_of : Result LinearProgram2D Refusal → Pass
pass_of (Ok (lp2d.Feasible p n)) = feasible p n
pass_of (Ok (lp2d.Infeasible f p n)) = failed (failure_of f) p n
pass_of (Err r) = refused (number_of r)

-- the probes that a pass counts
abbrev pub probes_of : Result LinearProgram2D Refusal → ℕ
probes_of (Ok (lp2d.Feasible p n)) = n
probes_of (Ok (lp2d.Infeasible f p n)) = n
probes_of (Err r) = 0

-- ---- and back

abbrev pub failure_as : Failure → FailureCode
failure_as f = record { index = f.index; cause = cause_as f.cause }

abbrev pub pass_as : Pass → Result LinearProgram2D Refusal
pass_as (feasible p n) = Ok (lp2d.Feasible p n)
pass_as (failed f p n) = Ok (lp2d.Infeasible (failure_as f) p n)
pass_as (refused r) = Err (refusal_of r)
