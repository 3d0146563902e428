-- Two answers that the promise of a record in a log allows agree. Assumes nothing.
use Prim.Native.Nat.{ℕ}
use mathlib.Core.Path.{◌≡◌, refl, ap, ◌∙◌}
use Rattle.std.specs.Prelude.{Result, Ok, Err, Option, Some, None}
use Rattle.arithmetic.proofs.Agree.{agree, agree-read}
use Rattle.admission.specs.declared.refusal.Refusal.{Refusal}
use Rattle.admission.specs.Refusals.{refusal_of}
use Rattle.admission.proofs.FaultLaws.{refusal-back}
use Rattle.answer_records.specs.declared.Reply.{Reply}
use Rattle.answer_records.specs.declared.Reply.TheVariants as reply
use Rattle.answer_logs.specs.declared.AnswerLog.{AnswerLog}
use Rattle.answer_logs.specs.Logs.{Entry, outcome, refusal, Logged, nothing, faulty, placed, entry_of, logged_of, handed_on, reader_behind}

reply_as : Entry → Reply
reply_as (outcome a) = reply.Outcome a
reply_as (refusal r) = reply.Refusal (refusal_of r)

reply-back : (r : Reply) → reply_as (entry_of r) ≡ r
unfolding reply_as
reply-back (reply.Outcome a) = refl
reply-back (reply.Refusal r) = ap reply.Refusal (refusal-back r)

logged_as : Logged → Result (Option (Reply × ℕ)) Refusal
logged_as nothing = Ok None
logged_as (faulty r) = Err (refusal_of r)
logged_as (placed e behind) = Ok (Some (reply_as e, behind))

logged-back : (l : Result (Option (Reply × ℕ)) Refusal) → logged_as (logged_of l) ≡ l
unfolding logged_as
logged-back (Ok (Some (r, behind))) = ap (λ (it : Reply). Ok (Some (it, behind))) (reply-back r)
logged-back (Ok None) = refl
logged-back (Err r) = ap Err (refusal-back r)

pub logged-agree : {one other : Result (Option (Reply × ℕ)) Refusal} {promised : Logged} → logged_of one ≡ promised →
    logged_of other ≡ promised → one ≡ other
logged-agree = agree-read logged_of logged_as logged-back

-- what a reader hands on, and where it stands then
handed_as : Logged → Result (Option Reply) Refusal
handed_as nothing = Ok None
handed_as (faulty r) = Err (refusal_of r)
handed_as (placed e behind) = Ok (Some (reply_as e))

handed-back : (at : ℕ) (h : Result (Option Reply) Refusal) → handed_as (handed_on at h) ≡ h
unfolding handed_as
handed-back at (Ok (Some r)) = ap (λ (it : Reply). Ok (Some it)) (reply-back r)
handed-back at (Ok None) = refl
handed-back at (Err r) = ap Err (refusal-back r)

pub nexts-agree : (reader : AnswerLog) {one other : Result (Option Reply) Refusal} {first second : AnswerLog} {promised : Logged} →
    handed_on first.at one ≡ promised → first ≡ reader_behind reader promised → handed_on second.at other ≡ promised →
    second ≡ reader_behind reader promised → (one ≡ other) × (first ≡ second)
nexts-agree reader {other = other} {first = first} p u q v =
    let same = agree u v in (
      agree-read (handed_on first.at) handed_as (handed-back first.at) p
          (ap (λ (r : AnswerLog). handed_on r.at other) same ∙ q),
      same,
    )
