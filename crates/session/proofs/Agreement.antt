-- Answers of the code read there and back, so that two outcomes of a call that one promise allows agree: what is told,
-- and the session that stands then. Assumes nothing.
use Rattle.std.specs.Prelude.{⊤, Result, Ok, Err, Option, Some, None}
use Rattle.std.proofs.Common.{◌≡◌, ℕ, refl, ap}
use Rattle.arithmetic.proofs.Agree.{agree, agree-read}
use Rattle.admission.specs.declared.refusal.Refusal.{Refusal}
use Rattle.admission.specs.Refusals.{refusal_of}
use Rattle.admission.specs.Faults.{Fault, fine, fault}
use Rattle.admission.proofs.FaultLaws.{refusal-back, judgements-agree}
use Rattle.session.specs.declared.Session.{Session}
use Rattle.session.specs.Calls.{Fed, Changed, Unmet, At, Nothing, Refused, fed_of, changed_of, unmet_of}
use Rattle.session.specs.Sessions.{started_of}

-- what is told, or a refusal
told_or : {A : Type 0} → Fault → A → Result A Refusal
told_or fine a = Ok a
told_or (fault n) a = Err (refusal_of n)

unmet_from : Unmet → Result (Option ℕ) Refusal
unmet_from (At i) = Ok (Some i)
unmet_from Nothing = Ok None
unmet_from (Refused n) = Err (refusal_of n)

start-back : (r : Result Session Refusal) → told_or (started_of r).judged (started_of r).session ≡ r
unfolding told_or
start-back (Ok s) = refl
start-back (Err r) = rw (refusal-back r)

change-back : (r : Result ℕ Refusal) (s : Session) → told_or (changed_of r s).fed.judged (changed_of r s).withdrawn ≡ r
unfolding told_or
change-back (Ok n) s = refl
change-back (Err r) s = rw (refusal-back r)

change-leaves : (r : Result ℕ Refusal) (s : Session) → (changed_of r s).fed.session ≡ s
change-leaves (Ok n) s = refl
change-leaves (Err r) s = refl

unmet-back : (r : Result (Option ℕ) Refusal) → unmet_from (unmet_of r) ≡ r
unfolding unmet_from
unmet-back (Ok (Some i)) = refl
unmet-back (Ok None) = refl
unmet-back (Err r) = rw (refusal-back r)

-- ---- a start; a batch, a withdrawal or a change; a change by origin; a question

pub starts-agree : {one other : Result Session Refusal} {promised : Fed} → started_of one ≡ promised →
    started_of other ≡ promised → one ≡ other
starts-agree = agree-read started_of (λ (f : Fed). told_or f.judged f.session) start-back

pub calls-agree : {one other : Result ⊤ Refusal} {left stays : Session} {promised : Fed} → fed_of one left ≡ promised →
    fed_of other stays ≡ promised → (one ≡ other) × (left ≡ stays)
calls-agree p q =
    let same = agree p q in
    (judgements-agree (ap (λ (f : Fed). f.judged) same) refl, ap (λ (f : Fed). f.session) same)

pub changes-agree : {one other : Result ℕ Refusal} {left stays : Session} {promised : Changed} →
    changed_of one left ≡ promised → changed_of other stays ≡ promised → (one ≡ other) × (left ≡ stays)
changes-agree {one} {other} {left} {stays} p q =
    let same = agree p q in (
      rw (change-back one left, change-back other stays) at (ap (λ (c : Changed). told_or c.fed.judged c.withdrawn) same),
      rw (change-leaves one left, change-leaves other stays) at (ap (λ (c : Changed). c.fed.session) same),
    )

pub unmets-agree : {one other : Result (Option ℕ) Refusal} {promised : Unmet} → unmet_of one ≡ promised →
    unmet_of other ≡ promised → one ≡ other
unmets-agree = agree-read unmet_of unmet_from unmet-back
