-- Two outcomes that a writer's promise allows agree: the judgement, and what the buffer holds then. So do two that the
-- reader's promise allows. Assumes nothing.
use Rattle.std.proofs.Common.{◌≡◌, ℕ, List, refl, ap}
use Rattle.arithmetic.proofs.Agree.{agree, agree-read}
use Rattle.std.specs.Prelude.{⊤, Result, Ok, Err}
use Rattle.admission.specs.declared.refusal.Refusal.{Refusal}
use Rattle.admission.specs.Refusals.{refusal_of}
use Rattle.admission.proofs.FaultLaws.{refusal-back, judgements-agree}
use Rattle.answer_records.specs.declared.Reply.{Reply}
use Rattle.answer_records.specs.declared.Reply.TheVariants as reply
use Rattle.answer_records.specs.Answers.{Written, written_of}
use Rattle.answer_records.specs.Replies.{Said, outcome, refusal, unreadable, said_of}

pub writings-agree : {one other : Result ⊤ Refusal} {held kept : List ℕ} {promised : Written} → written_of one held ≡ promised →
    written_of other kept ≡ promised → (one ≡ other) × (held ≡ kept)
writings-agree p q = (
  judgements-agree (ap (λ (w : Written). w.told) p) (ap (λ (w : Written). w.told) q),
  agree (ap (λ (w : Written). w.contents) p) (ap (λ (w : Written). w.contents) q),
)

-- the reply that says it
reply_as : Said → Result Reply Refusal
reply_as (outcome a) = Ok (reply.Outcome a)
reply_as (refusal n) = Ok (reply.Refusal (refusal_of n))
reply_as (unreadable n) = Err (refusal_of n)

reply-back : (r : Result Reply Refusal) → reply_as (said_of r) ≡ r
unfolding reply_as
reply-back (Ok (reply.Outcome a)) = refl
reply-back (Ok (reply.Refusal r)) = ap (λ (x : Refusal). Ok (reply.Refusal x)) (refusal-back r)
reply-back (Err r) = ap Err (refusal-back r)

pub replies-agree : {one other : Result Reply Refusal} {promised : Said} → said_of one ≡ promised → said_of other ≡ promised →
    one ≡ other
replies-agree = agree-read said_of reply_as reply-back
