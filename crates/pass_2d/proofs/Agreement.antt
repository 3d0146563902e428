-- A failure and a pass of the code there and back: what one says can be turned back, so two answers that one promise
-- allows are the same. Assumes nothing.
use mathlib.Core.Path.{◌≡◌, refl}
use Rattle.arithmetic.proofs.Agree.{agree-read}
use Rattle.std.specs.Prelude.{Result, Ok, Err}
use Rattle.admission.specs.declared.refusal.Refusal.{Refusal}
use Rattle.admission.proofs.FaultLaws.{refusal-back}
use Rattle.one_line.proofs.Agreement.{cause-back, cause-there}
use Rattle.pass_2d.specs.declared.Failure.{Failure as FailureCode}
use Rattle.pass_2d.specs.declared.LinearProgram2D.{LinearProgram2D}
use Rattle.pass_2d.specs.declared.LinearProgram2D.TheVariants as lp2d
use Rattle.pass_2d.specs.Pass.{Failure, Pass}
use Rattle.pass_2d.specs.Read.{failure_of, failure_as, pass_of, pass_as}

pub failure-back : (f : FailureCode) → failure_as (failure_of f) ≡ f
failure-back f = rw (cause-back f.cause)

pub failure-there : (f : Failure) → failure_of (failure_as f) ≡ f
failure-there f = rw (cause-there f.cause)

pass-back : (a : Result LinearProgram2D Refusal) → pass_as (pass_of a) ≡ a
pass-back (Ok (lp2d.Feasible p n)) = refl
pass-back (Ok (lp2d.Infeasible f p n)) = rw (failure-back f)
pass-back (Err r) = rw (refusal-back r)

pub passes-agree : {one other : Result LinearProgram2D Refusal} {promised : Pass} → pass_of one ≡ promised → pass_of other ≡ promised → one ≡ other
passes-agree = agree-read pass_of pass_as pass-back
