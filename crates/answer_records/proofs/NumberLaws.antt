-- Two results that one promise allows agree. Assumes nothing.
use Rattle.std.proofs.Common.{◌≡◌, ℕ, refl, ap}
use Rattle.std.specs.Prelude.{Result, Ok, Err}
use Rattle.arithmetic.proofs.Agree.{agree-read}
use Rattle.admission.specs.declared.refusal.Refusal.{Refusal}
use Rattle.admission.proofs.FaultLaws.{refusal-back}
use Rattle.answer_records.specs.Numbers.{numbered, unnumbered}

pub numbered-back : {A : Type 0} (r : Result A Refusal) → unnumbered (numbered r) ≡ r
numbered-back (Ok a) = refl
numbered-back (Err r) = ap Err (refusal-back r)

pub numbered-agree : {A : Type 0} {one other : Result A Refusal} {promised : Result A ℕ} → numbered one ≡ promised →
    numbered other ≡ promised → one ≡ other
numbered-agree = agree-read numbered unnumbered numbered-back
