-- What is written is read back, and what is read is written again to the same bytes, for outcomes and for refusals.
-- Assumes nothing.
use Rattle.std.proofs.Common.{◌≡◌, ℕ, zero, suc, ◌+◌, ◌-◌, ◌/◌, ◌%◌, ◌^◌, ◌<◌, ◌≤◌, Bool, true, false, eqb, List, [], ◌∷◌, length, get_or, sym, refl, ap, ◌∙◌, div-one, arith, eq-eqb, eqb-true, le-leb}
use borrow.Author.Tests.{lt-leb, eqb-false}
use Rattle.arithmetic.specs.Binary32.{when◌then◌else◌}
use Rattle.words.specs.Words.{pair_of, word_of}
use Rattle.fields.specs.Bytes.{big_endian_number, big_endian_from, big_endian, AllBytes}
use Rattle.fields.proofs.ByteLaws.{number-of-bytes}
use Rattle.admission.specs.Faults.{Fault, fine, fault, unless_fault}
use Rattle.answer_records.specs.declared.Answer.{Answer}
use Rattle.answer_records.specs.Replies as said
use Rattle.answer_records.specs.Answers.{outcome_length, refusal_length, answer_bytes, refusal_bytes}
use Rattle.answer_records.specs.Replies.{is_length, is_refusal_code, length_of_code, answer_fault, outcome_in, answer_in}
use Rattle.answer_records.proofs.ReplyLaws.{Faultless, faultless, code-within, refusal-named, refusal-coded}

-- ---- numbers and their bytes

module _ (s : List ℕ) (at : ℕ) (bytes : AllBytes s) where
  pair-bytes : big_endian 2 (pair_of s at) ≡ get_or s at 0 ∷ get_or s (at + 1) 0 ∷ []
  unfolding big_endian pair_of
  pair-bytes =
      let a = bytes at in
      let b = bytes (at + 1) in
      let first : pair_of s at / 256 % 256 ≡ get_or s at 0 = omega arith in
      let second : pair_of s at / 256 ^ 0 % 256 ≡ get_or s (at + 1) 0 = rw div-one (omega arith) in
      rw (first, second)

  word_bytes : big_endian 4 (word_of s at) ≡ get_or s at 0 ∷ get_or s (at + 1) 0 ∷ get_or s (at + 2) 0 ∷ get_or s (at + 3) 0 ∷ []
  unfolding big_endian word_of
  word_bytes =
      let a = bytes at in
      let b = bytes (at + 1) in
      let c = bytes (at + 2) in
      let d = bytes (at + 3) in
      let first : word_of s at / 16777216 % 256 ≡ get_or s at 0 = omega arith in
      let second : word_of s at / 65536 % 256 ≡ get_or s (at + 1) 0 = omega arith in
      let third : word_of s at / 256 % 256 ≡ get_or s (at + 2) 0 = omega arith in
      let fourth : word_of s at / 256 ^ 0 % 256 ≡ get_or s (at + 3) 0 = rw div-one (omega arith) in
      rw (first, second, third, fourth)

-- a list by its elements
up_to : ℕ → (ℕ → ℕ) → List ℕ
up_to zero f = []
up_to (suc n) f = f 0 ∷ up_to n (λ i. f (suc i))

listed : (s : List ℕ) → s ≡ up_to (length s) (λ i. get_or s i 0)
unfolding up_to
listed [] = refl
listed (x ∷ s) = ap (λ (l : List ℕ). x ∷ l) (listed s)

-- ---- what is written is read back

-- an outcome whose numbers fit their fields
pub record Fits (a : Answer) : Type 0 where
  pub least : 1 ≤ a.code
  pub most : a.code ≤ 5
  pub x : a.x < 2 ^ 32
  pub y : a.y < 2 ^ 32
  pub failed : a.failed < 2 ^ 16
  pub probes : a.probes < 2 ^ 32

its-length : (a : Answer) → pair_of (answer_bytes a) 0 ≡ outcome_length
unfolding pair_of answer_bytes big_endian
its-length a = refl

module _ (a : Answer) (fits : Fits a) where
  same_outcome : outcome_in (answer_bytes a) ≡ a
  unfolding outcome_in answer_bytes big_endian big_endian_number big_endian_from word_of pair_of
  same_outcome =
      let x : word_of (answer_bytes a) 4 ≡ a.x = omega (arith, number-of-bytes 4 a.x fits.x) in
      let y : word_of (answer_bytes a) 8 ≡ a.y = omega (arith, number-of-bytes 4 a.y fits.y) in
      let failed : pair_of (answer_bytes a) 12 ≡ a.failed = omega (arith, number-of-bytes 2 a.failed fits.failed) in
      let probes : word_of (answer_bytes a) 14 ≡ a.probes = omega (arith, number-of-bytes 4 a.probes fits.probes) in
      rw (x, y, failed, probes)

  outcome-fine : answer_fault (answer_bytes a) ≡ fine
  unfolding answer_fault answer_bytes big_endian pair_of is_length length_of_code when◌then◌else◌
  outcome-fine = rw (le-leb 1 a.code fits.least, le-leb a.code 5 fits.most)

  pub outcome-read-back : answer_in (answer_bytes a) ≡ said.outcome a
  unfolding answer_in when◌then◌else◌
  outcome-read-back = rw (outcome-fine, outcome-named, same_outcome)
    where
      outcome-named : eqb (pair_of (answer_bytes a) 0) outcome_length ≡ true
      outcome-named = eq-eqb _ _ (its-length a)

-- a refusal by a number whose code the reader takes
module _ (n : ℕ) (told : is_refusal_code (128 + n) ≡ true) where
  code_of : (128 + n) % 256 ≡ 128 + n
  code_of = let within = code-within (128 + n) told in omega arith

  refusal-fine : answer_fault (refusal_bytes n) ≡ fine
  unfolding answer_fault refusal_bytes big_endian pair_of is_length length_of_code when◌then◌else◌
  refusal-fine =
      let within = code-within (128 + n) told in
      rw (code_of, le-leb 1 (128 + n) (omega arith), lt-leb (128 + n) 5 (omega arith), told)

  pub refusal-read-back : answer_in (refusal_bytes n) ≡ said.refusal n
  unfolding answer_in refusal_bytes big_endian pair_of when◌then◌else◌
  refusal-read-back =
      let number : 128 + n - 128 ≡ n = omega arith in
      rw (refusal-fine, code_of, number)

-- ---- what is read is written again

-- where an outcome is read there is no fault, the length is an outcome's, and it is the record's outcome; a refusal alike
read-outcome : {C : Type 0} (f : Fault) (named : Bool) (o : Answer) (n : ℕ) (a : Answer) →
    unless_fault said.unreadable f (when named then said.outcome o else said.refusal n) ≡ said.outcome a →
    (f ≡ fine → named ≡ true → o ≡ a → C) → C
unfolding when◌then◌else◌
read-outcome fine true o n a e go = go refl refl cc
read-outcome fine false o n a e go = absurd (let z : ◌≡◌ {A = ℕ} 0 1 = cc in omega arith)
read-outcome (fault r) named o n a e go = absurd (let z : ◌≡◌ {A = ℕ} 0 1 = cc in omega arith)

read-refusal : {C : Type 0} (f : Fault) (named : Bool) (o : Answer) (n m : ℕ) →
    unless_fault said.unreadable f (when named then said.outcome o else said.refusal n) ≡ said.refusal m →
    (f ≡ fine → named ≡ false → n ≡ m → C) → C
unfolding when◌then◌else◌
read-refusal fine true o n m e go = absurd (let z : ◌≡◌ {A = ℕ} 0 1 = cc in omega arith)
read-refusal fine false o n m e go = go refl refl cc
read-refusal (fault r) named o n m e go = absurd (let z : ◌≡◌ {A = ℕ} 0 1 = cc in omega arith)

-- the record by its bytes, and its length field's two
its-bytes : (s : List ℕ) (w : ℕ) → Faultless s → pair_of s 0 ≡ w → s ≡ up_to (2 + w) (λ i. get_or s i 0)
its-bytes s w whole e = rw (whole.matched ∙ ap (λ (n : ℕ). 2 + n) e) at (listed s)

module _ (s : List ℕ) (bytes : AllBytes s) where
  length-bytes : (w : ℕ) → pair_of s 0 ≡ w → big_endian 2 w ≡ get_or s 0 0 ∷ get_or s 1 0 ∷ []
  length-bytes w e = ap (big_endian 2) (sym e) ∙ pair-bytes s 0 bytes

  pub outcome-written-again : (a : Answer) → answer_in s ≡ said.outcome a → s ≡ answer_bytes a
  unfolding answer_in answer_bytes outcome_in up_to
  outcome-written-again a e =
      read-outcome (answer_fault s) (eqb (pair_of s 0) outcome_length) (outcome_in s) _ a e λ f b o.
      let whole = faultless s f in
      let n : pair_of s 0 ≡ outcome_length = eqb-true _ _ b in
      its-bytes s outcome_length whole n ∙ rw (
        ← o,
        length-bytes outcome_length n,
        word_bytes s 4 bytes,
        word_bytes s 8 bytes,
        pair-bytes s 12 bytes,
        word_bytes s 14 bytes,
        whole.version,
      )

  pub refusal-written-again : (n : ℕ) → answer_in s ≡ said.refusal n → s ≡ refusal_bytes n
  unfolding answer_in refusal_bytes up_to
  refusal-written-again m e =
      read-refusal (answer_fault s) (eqb (pair_of s 0) outcome_length) (outcome_in s) _ m e λ f b o.
      let whole = faultless s f in
      let other : pair_of s 0 ≡ outcome_length → ⊥ = eqb-false _ _ b in
      let n : pair_of s 0 ≡ refusal_length = refusal-named s f other in
      let high : 128 ≤ get_or s 3 0 = refusal-coded s f other in
      let code : (128 + m) % 256 ≡ get_or s 3 0 = omega (arith, bytes 3) in
      its-bytes s refusal_length whole n ∙ rw (length-bytes refusal_length n, code, whole.version)

-- ---- the bytes of what was read

-- the length that the record names, and that it has
pub outcome-size : (s : List ℕ) (a : Answer) → answer_in s ≡ said.outcome a → (pair_of s 0 ≡ outcome_length)
    × (length s ≡ 2 + outcome_length)
unfolding answer_in
outcome-size s a e =
    read-outcome (answer_fault s) (eqb (pair_of s 0) outcome_length) (outcome_in s) _ a e λ f b o.
    let n : pair_of s 0 ≡ outcome_length = eqb-true _ _ b in
    (n, (faultless s f).matched ∙ ap (λ (k : ℕ). 2 + k) n)

pub refusal-size : (s : List ℕ) (n : ℕ) → answer_in s ≡ said.refusal n → (pair_of s 0 ≡ refusal_length)
    × (length s ≡ 2 + refusal_length)
unfolding answer_in
refusal-size s m e =
    read-refusal (answer_fault s) (eqb (pair_of s 0) outcome_length) (outcome_in s) _ m e λ f b o.
    let n : pair_of s 0 ≡ refusal_length = refusal-named s f (eqb-false _ _ b) in
    (n, (faultless s f).matched ∙ ap (λ (k : ℕ). 2 + k) n)
