-- Two answers that one promise allows are the same: what they say can be turned back. Assumes nothing.
use mathlib.Core.Path.{◌≡◌, refl}
use Rattle.std.specs.Prelude.{Option, Some, None, Result, Ok, Err}
use Rattle.arithmetic.proofs.Agree.{agree-read}
use Rattle.admission.specs.declared.refusal.Refusal.{Refusal}
use Rattle.admission.proofs.FaultLaws.{refusal-back}
use Rattle.lines.specs.declared.Line.{Line}
use Rattle.obstacles.specs.Obstacles.{Admitted}
use Rattle.obstacles.specs.Read.{admitted_of, admitted_as}

admitted-back : (a : Result (Option Line) Refusal) → admitted_as (admitted_of a) ≡ a
admitted-back (Ok (Some l)) = refl
admitted-back (Ok None) = refl
admitted-back (Err r) = rw (refusal-back r)

pub admitted-agree : {one other : Result (Option Line) Refusal} {promised : Admitted} → admitted_of one ≡ promised →
    admitted_of other ≡ promised → one ≡ other
admitted-agree = agree-read admitted_of admitted_as admitted-back
