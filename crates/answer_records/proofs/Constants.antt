-- The constants of answer records: each length is that of the record's bytes behind the length field. Assumes nothing.
use Rattle.std.proofs.Common.{◌≡◌, ℕ, ◌+◌, [], ◌∷◌, length, refl}
use Rattle.fields.specs.Bytes.{big_endian}
use Rattle.answer_records.specs.declared.Answer.{Answer}
use Rattle.answer_records.specs.Answers.{outcome_length, refusal_length, answer_version, longest_answer, no_failed_line, refused_code, answer_bytes, refusal_bytes}

pub constants : (outcome_length ∷ refusal_length ∷ answer_version ∷ no_failed_line ∷ refused_code ∷ [])
    ≡ (16 ∷ 2 ∷ 1 ∷ 0xFFFF ∷ 128 ∷ [])
constants = refl

pub outcome-size : (a : Answer) → (length (answer_bytes a) ≡ longest_answer) × (longest_answer ≡ 2 + outcome_length)
unfolding answer_bytes big_endian
outcome-size a = (refl, refl)

pub refusal-size : (n : ℕ) → length (refusal_bytes n) ≡ 2 + refusal_length
unfolding refusal_bytes big_endian
refusal-size n = refl
