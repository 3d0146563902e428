-- Two answers that the promise of a checked move allows agree. Assumes nothing.
use mathlib.Core.Path.{◌≡◌, refl, ap}
use Rattle.std.specs.Prelude.{Result, Ok, Err, Option, Some, None}
use Rattle.arithmetic.proofs.Agree.{agree-read}
use Rattle.admission.specs.declared.refusal.Refusal.{Refusal}
use Rattle.admission.specs.Refusals.{refusal_of}
use Rattle.admission.proofs.FaultLaws.{refusal-back}
use Rattle.wall_check.specs.declared.Crossing.{Crossing}
use Rattle.wall_check.specs.Crossings.{WallCheck, crossed, clear, refused, check_of}

check_as : WallCheck → Result (Option Crossing) Refusal
check_as (crossed o v n) = Ok (Some (record { obstacle = o; vertex = v; count = n }))
check_as clear = Ok None
check_as (refused r) = Err (refusal_of r)

check-back : (c : Result (Option Crossing) Refusal) → check_as (check_of c) ≡ c
unfolding check_as
check-back (Ok (Some c)) = refl
check-back (Ok None) = refl
check-back (Err r) = ap Err (refusal-back r)

pub checks-agree : {one other : Result (Option Crossing) Refusal} {promised : WallCheck} → check_of one ≡ promised →
    check_of other ≡ promised → one ≡ other
checks-agree = agree-read check_of check_as check-back
