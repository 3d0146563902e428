-- Laws of the records of a log: which numbers they have, and where they end. Assumes nothing.
use Prim.Native.Nat.{ℕ, ◌+◌, ◌-◌, ◌≤◌, ◌<◌}
use native.Mathlib.Omega.{arith}
use mathlib.Core.Path.{◌≡◌, refl, ap, ◌∙◌}
use mathlib.Core.Bool.{Bool, true, false}
use mathlib.Core.List.{List, [], ◌∷◌}
use lib.Dec.{eqb, leb}
use lib.ListN.{length, take, drop, get_or, length-drop}
use borrow.Author.Tests.{leb-true, leb-false, eqb-true, eqb-false}
use Rattle.arithmetic.specs.Binary32.{when◌then◌else◌}
use Rattle.arithmetic.proofs.Choice.{if-case}
use Rattle.words.specs.Words.{pair_of}
use Rattle.admission.specs.Faults.{Fault, fine, fault, unless_fault}
use Rattle.answer_records.specs.declared.Answer.{Answer}
use Rattle.answer_records.specs.Replies as said
use Rattle.answer_records.specs.Answers.{outcome_length, refusal_length, refused_code}
use Rattle.answer_records.specs.Replies.{Said, length_of_code, answer_fault, outcome_in, answer_in}
use Rattle.answer_records.proofs.ReplyLaws.{faultless, refusal-named, refusal-coded}
use Rattle.answer_logs.specs.Logs as logged
use Rattle.answer_logs.specs.Logs.{outcome, refusal, Logged, found_as, size_in, found_in, logged_as, logged_at}
use Rattle.answer_logs.proofs.LogLaws.{found-there, found-cut}

-- ---- the numbers of a record

-- what is read has a code of its own length
pub data Coded : Said → Type 0 where
  coded-outcome : {a : Answer} → length_of_code a.code ≡ outcome_length → Coded (said.outcome a)
  coded-refusal : {n : ℕ} → length_of_code (128 + n) ≡ refusal_length → Coded (said.refusal n)
  coded-fault : {n : ℕ} → Coded (said.unreadable n)

module _ (s : List ℕ) where
  abbrev code : ℕ
  code = get_or s 3 0

  other-coded : answer_fault s ≡ fine → (pair_of s 0 ≡ outcome_length → ⊥) → length_of_code (128 + (code - refused_code))
      ≡ refusal_length
  other-coded e other =
      let same : 128 + (code - refused_code) ≡ code = omega (arith, refusal-coded s e other) in
      ap length_of_code same ∙ (faultless s e).coded ∙ refusal-named s e other

  coded-as : (f : Fault) → answer_fault s ≡ f →
      Coded (unless_fault said.unreadable f (when eqb (pair_of s 0) outcome_length then said.outcome
      (outcome_in s) else said.refusal (code - refused_code)))
  unfolding outcome_in
  coded-as (fault n) e = coded-fault
  coded-as fine e =
      if-case Coded (eqb (pair_of s 0) outcome_length) (λ b. coded-outcome ((faultless s e).coded ∙ eqb-true _ _ b))
      (λ b. coded-refusal (other-coded e (eqb-false _ _ b)))

  pub coded : Coded (answer_in s)
  unfolding answer_in
  coded = coded-as (answer_fault s) refl

-- ---- where a record ends

-- what stands at a byte of a log: a record lies within it
pub data Stands (s : List ℕ) (at : ℕ) : Logged → Type 0 where
  no_record : Stands s at logged.nothing
  bad-record : {n : ℕ} → Stands s at (logged.faulty n)
  an-outcome : {a : Answer} {behind : ℕ} → at < behind → behind ≤ length s → length_of_code a.code ≡ outcome_length →
      Stands s at (logged.placed (outcome a) behind)
  a-refusal : {n behind : ℕ} → at < behind → behind ≤ length s → length_of_code (128 + n) ≡ refusal_length →
      Stands s at (logged.placed (refusal n) behind)

module _ (s : List ℕ) (at : ℕ) where
  stands-reply : (size : ℕ) (r : Said) → Coded r → 0 < size → at + size ≤ length s → Stands s at (logged_as at (found_as size r))
  stands-reply size (said.outcome a) (coded-outcome e) h k = an-outcome {behind = at + size} (omega arith) k e
  stands-reply size (said.refusal n) (coded-refusal e) h k = a-refusal {behind = at + size} (omega arith) k e
  stands-reply size (said.unreadable n) coded-fault h k = bad-record

  stands-sized : (rest : List ℕ) → 0 < length rest → length rest ≡ length s - at → (b : Bool) →
      leb (size_in rest) (length rest) ≡ b → Stands s at (logged_as at (found_in rest))
  unfolding size_in
  stands-sized rest there h true e =
      let k = leb-true (size_in rest) (length rest) e in
      rw (found-there rest there) (stands-reply (size_in rest) (answer_in (take (size_in rest) rest)) (coded _)
      (omega arith) (omega arith))
  stands-sized rest there h false e = rw (found-cut rest there (leb-false (size_in rest) (length rest) e)) bad-record

  stands-in : (rest : List ℕ) → length rest ≡ length s - at → Stands s at (logged_as at (found_in rest))
  unfolding found_in
  stands-in [] h = no_record
  stands-in (x ∷ t) h = stands-sized (x ∷ t) (omega arith) h (leb (size_in (x ∷ t)) (length (x ∷ t))) refl

  pub stands : Stands s at (logged_at s at)
  unfolding logged_at
  stands = stands-in (drop at s) (length-drop at s)
