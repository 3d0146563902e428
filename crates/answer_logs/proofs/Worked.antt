-- Small logs cut into records by the definition, at 02's limit and at the limit 1. Assumes nothing.
use Prim.Native.Nat.{ℕ}
use mathlib.Core.Path.{◌≡◌, refl}
use mathlib.Core.List.{List, [], ◌∷◌, ◌++◌}
use Rattle.arithmetic.specs.Binary32.{when◌then◌else◌}
use Rattle.words.specs.Words.{pair_of, word_of}
use Rattle.answer_records.specs.Replies.{is_length, length_of_code, answer_fault, outcome_in, answer_in}
use Rattle.answer_logs.specs.Logs.{outcome, refusal, whole, refused_at, size_in, found_in, most_records, records_from, records_in}

-- what working out takes
unfoldable pub computed : Unit {0}
unfolding records_in records_from found_in size_in answer_in answer_fault outcome_in is_length length_of_code pair_of word_of when◌then◌else◌
computed = tt

-- the record of a scene refused with 6, and 01's example answer: outcome 1 at (0, 0.5), no failed line, one probe
abbrev pub refused_scene : List ℕ
refused_scene = 0 ∷ 2 ∷ 1 ∷ 134 ∷ []

abbrev pub an_answer : List ℕ
an_answer = 0 ∷ 16 ∷ 1 ∷ 1 ∷ 0 ∷ 0 ∷ 0 ∷ 0 ∷ 63 ∷ 0 ∷ 0 ∷ 0 ∷ 255 ∷ 255 ∷ 0 ∷ 0 ∷ 0 ∷ 1 ∷ []

-- ---- where one record may begin

at-the-limit : records_in 1 refused_scene ≡ whole (refusal 6 ∷ [])
unfolding computed
at-the-limit = refl

-- the second is refused with 4, and its bytes are not looked at
past-the-limit : records_in 1 (refused_scene ++ (255 ∷ [])) ≡ refused_at 4 1
unfolding computed
past-the-limit = refl

-- a bad record before the limit is told first
bad-first : records_in 1 (255 ∷ []) ≡ refused_at 2 0
unfolding computed
bad-first = refl

-- ---- at 02's limit

no-records : records_in most_records [] ≡ whole []
unfolding computed
no-records = refl

two_records : records_in most_records (an_answer ++ refused_scene) ≡
    whole (outcome (record { code = 1; x = 0; y = 1056964608; failed = 65535; probes = 1 }) ∷ refusal 6 ∷ [])
unfolding computed
two_records = refl

-- a record that is cut short gets 2, also where its version is wrong
cut-before-version : records_in most_records (0 ∷ 16 ∷ 2 ∷ []) ≡ refused_at 2 0
unfolding computed
cut-before-version = refl

other_length : records_in most_records (0 ∷ 5 ∷ []) ≡ refused_at 2 0
unfolding computed
other_length = refl

other-version : records_in most_records (0 ∷ 2 ∷ 2 ∷ 134 ∷ []) ≡ refused_at 1 0
unfolding computed
other-version = refl

-- no scene is refused with 11
other-code : records_in most_records (0 ∷ 2 ∷ 1 ∷ 139 ∷ []) ≡ refused_at 2 0
unfolding computed
other-code = refl

-- the place is of the record, not of the byte
second-record : records_in most_records (an_answer ++ (0 ∷ 2 ∷ 2 ∷ 129 ∷ [])) ≡ refused_at 1 1
unfolding computed
second-record = refl
