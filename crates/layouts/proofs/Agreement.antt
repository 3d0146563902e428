-- Two answers that the promise of a judged layout allows agree. Assumes nothing.
use Prim.Native.Nat.{ℕ}
use mathlib.Core.Path.{◌≡◌, refl, ap}
use Rattle.std.specs.Prelude.{Result, Ok, Err}
use Rattle.arithmetic.proofs.Agree.{agree-read}
use Rattle.admission.specs.declared.refusal.Refusal.{Refusal}
use Rattle.admission.specs.Refusals.{refusal_of}
use Rattle.admission.proofs.FaultLaws.{refusal-back}
use Rattle.layouts.specs.Layouts.{Layout, vertices, at_fault, layout_of}

layout_as : Layout → Result ℕ Refusal
layout_as (vertices n) = Ok n
layout_as (at_fault r) = Err (refusal_of r)

layout-back : (l : Result ℕ Refusal) → layout_as (layout_of l) ≡ l
unfolding layout_as
layout-back (Ok n) = refl
layout-back (Err r) = ap Err (refusal-back r)

pub layouts-agree : {one other : Result ℕ Refusal} {promised : Layout} → layout_of one ≡ promised →
    layout_of other ≡ promised → one ≡ other
layouts-agree = agree-read layout_of layout_as layout-back
