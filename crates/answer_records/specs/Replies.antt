-- What reading an answer record gives (01, "Records (ours)", "The answer reader .."). Definitions only. Assumes nothing.
use Rattle.std.specs.Prelude.{ℕ, ◌+◌, ◌-◌, Bool, ◌&&◌, ◌||◌, List, length, ◌==◌, nat_eq, nat_le, slice_index, Result, Ok, Err}
use Rattle.arithmetic.specs.Binary32.{when◌then◌else◌}
use Rattle.words.specs.Words.{pair_of, word_of}
use Rattle.admission.specs.declared.refusal.Refusal.{Refusal}
use Rattle.admission.specs.Refusals.{number_of}
use Rattle.admission.specs.Faults.{Fault, must, ◌⊳◌, unless_fault}
use Rattle.answer_records.specs.declared.Answer.{Answer}
use Rattle.answer_records.specs.declared.Reply.{Reply}
use Rattle.answer_records.specs.declared.Reply.TheVariants as reply
use Rattle.answer_records.specs.Answers.{outcome_length, refusal_length, answer_version, refused_code}

-- what a record says: an outcome with its number and values, a refused scene by its number, or the number of the
-- record's own fault
pub data Said : Type 0 where
  outcome : Answer → Said
  refusal : ℕ → Said
  unreadable : ℕ → Said

abbrev pub said_of : Result Reply Refusal → Said
said_of (Ok (reply.Outcome a)) = outcome a
said_of (Ok (reply.Refusal r)) = refusal (number_of r)
said_of (Err r) = unreadable (number_of r)

unfoldable pub is_length : ℕ → Bool
is_length n = n == outcome_length || n == refusal_length

-- "codes 1 to 5 and 129 to 138 only, the first with length 16, the second with length 2", and 142 as these (02, T-11);
-- 0 is the length of no record. No other place knows the codes
abbrev pub is_refusal_code : ℕ → Bool
is_refusal_code code = (nat_le 129 code && nat_le code 138) || code == 142

unfoldable pub length_of_code : ℕ → ℕ
length_of_code code = when nat_le 1 code && nat_le code 5 then outcome_length else (when is_refusal_code code then refusal_length else 0)

-- "fewer than two bytes, a length that is neither, or bytes that do not match it, 2; another version, 1; a code not of
-- its length, 2"
unfoldable pub answer_fault : List ℕ → Fault
answer_fault s =
    must (nat_le 2 (length s)) 2
    ⊳ must (is_length (pair_of s 0)) 2
    ⊳ must (length s == 2 + pair_of s 0) 2
    ⊳ must (slice_index s 2 == answer_version) 1
    ⊳ must (length_of_code (slice_index s 3) == pair_of s 0) 2

-- "Point, failed line and probes are taken as they stand."
unfoldable pub outcome_in : List ℕ → Answer
outcome_in s = record { code = slice_index s 3; x = word_of s 4; y = word_of s 8; failed = pair_of s 12; probes = word_of s 14 }

-- a record is an outcome's or a refusal's by its length
unfoldable pub answer_in : List ℕ → Said
answer_in s = unless_fault unreadable (answer_fault s) (when nat_eq (pair_of s 0) outcome_length then outcome
    (outcome_in s) else refusal (slice_index s 3 - refused_code))
