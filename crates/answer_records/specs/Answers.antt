-- The bytes of answer records, and what writing them to a lent buffer leaves (01, "Records (ours)"). Definitions only.
-- Assumes nothing.
use Rattle.std.specs.Prelude.{ℕ, ◌+◌, ◌%◌, List, [], ◌∷◌, ◌++◌, length, drop, nat_le, ⊤, Result}
use Rattle.arithmetic.specs.Binary32.{when◌then◌else◌}
use Rattle.fields.specs.Bytes.{big_endian}
use Rattle.admission.specs.declared.refusal.Refusal.{Refusal}
use Rattle.admission.specs.Faults.{Fault, fine, fault, fault_of}
use Rattle.answer_records.specs.declared.Answer.{Answer}

-- the lengths that the two records name, and the version that both have
abbrev pub outcome_length : ℕ
outcome_length = 16

abbrev pub refusal_length : ℕ
refusal_length = 2

abbrev pub answer_version : ℕ
answer_version = 1

-- "answer buffer shorter than 18 bytes": an outcome's record is the longest answer
abbrev pub longest_answer : ℕ
longest_answer = 18

-- "FFFF for none"
abbrev pub no_failed_line : ℕ
no_failed_line = 0xFFFF

-- "128 + number" is a refusal's code
abbrev pub refused_code : ℕ
refused_code = 128

-- "Answer: length 16, version 1, outcome, x, y, failed line (2 bytes, FFFF for none), probes (4 bytes)"
unfoldable pub answer_bytes : Answer → List ℕ
answer_bytes a = big_endian 2 outcome_length ++ answer_version ∷ a.code ∷ big_endian 4 a.x ++ big_endian 4 a.y
    ++ big_endian 2 a.failed ++ big_endian 4 a.probes

-- "a refused scene as 00 02 01 and 128 + number". A code is a byte: numbers go up to 14, and one over 127 is never read
-- as a refusal's
unfoldable pub refusal_bytes : ℕ → List ℕ
refusal_bytes n = big_endian 2 refusal_length ++ answer_version ∷ (refused_code + n) % 256 ∷ []

-- what a writer tells, and what the buffer holds then
pub record Written : Type 0 where
  pub told : Fault
  pub contents : List ℕ

abbrev pub written : Fault → List ℕ → Written
written f l = record { told = f; contents = l }

abbrev pub written_of : Result ⊤ Refusal → List ℕ → Written
written_of r l = written (fault_of r) l

-- the bytes at the buffer's start, and behind them what stood there; a buffer too short for them is refused with 10 and
-- left alone
unfoldable pub laid : List ℕ → List ℕ → Written
laid bytes buffer = when nat_le (length bytes) (length buffer) then written fine (bytes ++ drop (length bytes) buffer) else
    written (fault 10) buffer
