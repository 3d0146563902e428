-- Laws of reading a record: what a record without a fault is. Assumes nothing.
use Rattle.std.proofs.Common.{◌≡◌, ℕ, ◌+◌, ◌≤◌, true, ◌&&◌, eqb, leb, ◌⊎◌, List, length, get_or, ◌∙◌, refl, inl, inr, ⊎_elim, arith, eqb-true, leb-true}
use Rattle.arithmetic.proofs.Choice.{if-all, if-case, and_left, and_right, or_cases}
use Rattle.words.specs.Words.{pair_of}
use Rattle.std.specs.Prelude.{⊤, Result, Ok, Err}
use Rattle.std.specs.Result.{result_and}
use Rattle.admission.specs.declared.refusal.Refusal.{Refusal}
use Rattle.admission.specs.Faults.{fine, must, ◌⊳◌, fault_of}
use Rattle.admission.proofs.FaultLaws.{⊳-fine, must-fine}
use Rattle.answer_records.specs.Answers.{outcome_length, refusal_length, answer_version, refused_code}
use Rattle.answer_records.specs.Replies.{is_length, is_refusal_code, length_of_code, answer_fault}

pub two-lengths : (n : ℕ) → is_length n ≡ true → (n ≡ outcome_length) ⊎ (n ≡ refusal_length)
unfolding is_length
two-lengths n h = ⊎_elim (λ e. inl (eqb-true _ _ e)) (λ e. inr (eqb-true _ _ e))
    (or_cases (eqb n outcome_length) (eqb n refusal_length) h)

pub has_code : (n : ℕ) → is_length n ≡ true → 2 ≤ n
has_code n h = ⊎_elim (λ e. omega arith) (λ e. omega arith) (two-lengths n h)

-- the first of two judgements
pub and-told : (one other : Result ⊤ Refusal) → fault_of (result_and one other) ≡ (fault_of one ⊳ fault_of other)
and-told (Ok u) other = refl
and-told (Err r) other = refl

-- a record without a fault
pub record Faultless (s : List ℕ) : Type 0 where
  pub named : is_length (pair_of s 0) ≡ true
  pub matched : length s ≡ 2 + pair_of s 0
  pub version : get_or s 2 0 ≡ answer_version
  pub coded : length_of_code (get_or s 3 0) ≡ pair_of s 0

pub faultless : (s : List ℕ) → answer_fault s ≡ fine → Faultless s
unfolding answer_fault
faultless s e =
    let length-there = ⊳-fine (must (leb 2 (length s)) 2) e in
    let length-known = ⊳-fine (must (is_length (pair_of s 0)) 2) length-there.1 in
    let bytes-match = ⊳-fine (must (eqb (length s) (2 + pair_of s 0)) 2) length-known.1 in
    let version-one = ⊳-fine (must (eqb (get_or s 2 0) answer_version) 1) bytes-match.1 in
    record {
      named = must-fine _ 2 length-known.0;
      matched = eqb-true _ _ (must-fine _ 2 bytes-match.0);
      version = eqb-true _ _ (must-fine _ 1 version-one.0);
      coded = eqb-true _ _ (must-fine _ 2 version-one.1);
    }

pub code-there : (s : List ℕ) → answer_fault s ≡ fine → 4 ≤ length s
code-there s e = let w = faultless s e in omega (arith, has_code _ w.named, w.matched)

-- ---- what a code is by its length

pub outcome-code : (k : ℕ) → length_of_code k ≡ outcome_length → (1 ≤ k) × (k ≤ 5)
unfolding length_of_code
outcome-code k =
    if-case (λ (n : ℕ). n ≡ outcome_length → (1 ≤ k) × (k ≤ 5)) (leb 1 k && leb k 5)
    (λ b e. (leb-true 1 k (and_left (leb 1 k) (leb k 5) b), leb-true k 5 (and_right (leb 1 k) (leb k 5) b)))
    (λ b. if-all (λ (n : ℕ). n ≡ outcome_length → (1 ≤ k) × (k ≤ 5)) (is_refusal_code k) (λ e. absurd (omega arith))
    (λ e. absurd (omega arith)))

pub code-within : (k : ℕ) → is_refusal_code k ≡ true → (129 ≤ k) × (k ≤ 142)
code-within k h =
    ⊎_elim
    (λ d. (let most = leb-true k 138 (and_right (leb 129 k) (leb k 138) d) in
    (leb-true 129 k (and_left (leb 129 k) (leb k 138) d), omega arith)))
    (λ e. (let same : k ≡ 142 = eqb-true k 142 e in (omega arith, omega arith)))
    (or_cases (leb 129 k && leb k 138) (eqb k 142) h)

-- from 129 on, and at most 142
pub refusal-code : (k : ℕ) → length_of_code k ≡ refusal_length → (129 ≤ k) × (k ≤ 142)
unfolding length_of_code
refusal-code k =
    if-case (λ (n : ℕ). n ≡ refusal_length → (129 ≤ k) × (k ≤ 142)) (leb 1 k && leb k 5) (λ b e. absurd (omega arith))
    (λ b. if-case (λ (n : ℕ). n ≡ refusal_length → (129 ≤ k) × (k ≤ 142)) (is_refusal_code k) (λ d e. code-within k d)
    (λ d e. absurd (omega arith)))

-- a record without a fault that is no outcome's is a refusal's
module _ (s : List ℕ) (e : answer_fault s ≡ fine) (other : pair_of s 0 ≡ outcome_length → ⊥) where
  pub refusal-named : pair_of s 0 ≡ refusal_length
  refusal-named = ⊎_elim (λ n. absurd (other n)) (λ n. n) (two-lengths (pair_of s 0) (faultless s e).named)

  pub refusal-of-code : length_of_code (get_or s 3 0) ≡ refusal_length
  refusal-of-code = (faultless s e).coded ∙ refusal-named

  pub refusal-coded : refused_code ≤ get_or s 3 0
  refusal-coded = omega (arith, (refusal-code (get_or s 3 0) refusal-of-code).0)

-- the refusals' codes, one by one
pub last-code : (k : ℕ) → length_of_code k ≡ refusal_length → (k ≤ 138) ⊎ (k ≡ 142)
unfolding length_of_code
last-code k =
    if-case (λ (n : ℕ). n ≡ refusal_length → (k ≤ 138) ⊎ (k ≡ 142)) (leb 1 k && leb k 5) (λ b e. absurd (omega arith))
    (λ b. if-case (λ (n : ℕ). n ≡ refusal_length → (k ≤ 138) ⊎ (k ≡ 142)) (is_refusal_code k)
    (λ d e. ⊎_elim (λ x. inl (leb-true k 138 (and_right (leb 129 k) (leb k 138) x))) (λ x. inr (eqb-true k 142 x))
    (or_cases (leb 129 k && leb k 138) (eqb k 142) d))
    (λ d e. absurd (omega arith)))
