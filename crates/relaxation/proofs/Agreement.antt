-- Relaxation's answer there and back: what it says can be turned back, so two answers that one promise allows are the
-- same. Assumes nothing.
use mathlib.Core.Path.{◌≡◌, refl}
use Rattle.arithmetic.proofs.Agree.{agree-read}
use Rattle.std.specs.Prelude.{Result, Ok, Err}
use Rattle.admission.specs.declared.refusal.Refusal.{Refusal}
use Rattle.admission.proofs.FaultLaws.{refusal-back}
use Rattle.relaxation.specs.declared.LinearProgram3D.{LinearProgram3D}
use Rattle.relaxation.specs.Relax.{Relaxed}
use Rattle.relaxation.specs.Read.{relaxed_of, relaxed_as}

relaxed-back : (a : Result LinearProgram3D Refusal) → relaxed_as (relaxed_of a) ≡ a
relaxed-back (Ok s) = refl
relaxed-back (Err r) = rw (refusal-back r)

pub relaxations-agree : {one other : Result LinearProgram3D Refusal} {promised : Relaxed} → relaxed_of one ≡ promised →
    relaxed_of other ≡ promised → one ≡ other
relaxations-agree = agree-read relaxed_of relaxed_as relaxed-back
