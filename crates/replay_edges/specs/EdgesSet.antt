-- Records of the set `edges`, by the definitions of the crate `obstacles`. Definitions only. Assumes nothing.
use Rattle.std.specs.Prelude.{ℕ, ◌+◌, ◌*◌, zero, suc, Bool, true, ◌&&◌, List, [], eqb, leb, get_or, Result, Ok, Err, Float}
use Rattle.std.specs.Float.{nan}
use Rattle.words.specs.Words.{word_of}
use Rattle.admission.specs.declared.refusal.Refusal.{Refusal}
use Rattle.admission.specs.Refusals.{number_of}
use Rattle.admission.specs.Faults.{Fault, fine, fault}
use Rattle.obstacles.specs.declared.ObstacleLines.{ObstacleLines}
use Rattle.obstacles.specs.Obstacles.{obstacle_call}
use Rattle.obstacles.specs.Read.{answer_as}
use Rattle.replay_records.specs.Answers.{number_at, vector_at, agrees_with}
use Rattle.replay_records.specs.Records.{first_numbers}

-- the two words at a place as one number, the high one first
unfoldable pub long_at : List ℕ → ℕ → ℕ
long_at s at = word_of s at * 4294967296 + word_of s (at + 4)

-- whether the first n numbers are those at a place, by value
unfoldable pub are_numbers : List ℕ → ℕ → List Float → ℕ → Bool
are_numbers s at xs zero = true
are_numbers s at xs (suc n) = are_numbers s at xs n && agrees_with (get_or xs n nan) (word_of s (at + 4 * n))

-- whether so many lines, or a refusal, are the answer: its lines are at a place
unfoldable pub is_lines_or_refusal : ℕ → List ℕ → ℕ → List Float → ℕ → Fault → Bool
is_lines_or_refusal answer s at xs n fine = leb n 64 && (eqb answer n && are_numbers s at xs (4 * n))
is_lines_or_refusal answer s at xs n (fault r) = eqb answer (100 + r)

unfoldable pub is_answer : ℕ → List ℕ → ℕ → Result ObstacleLines Refusal → Bool
is_answer answer s at (Ok made) = is_lines_or_refusal answer s at made.lines made.count fine
is_answer answer s at (Err r) = is_lines_or_refusal answer s at [] 0 (fault (number_of r))

-- whether the record's answer is the one to the obstacle and the agent that its head and its numbers make
unfoldable pub is_replayed : List ℕ → List ℕ → Bool
is_replayed head rest =
    leb (word_of head 0) 255
    && (leb (word_of head 4) 384
    && is_answer (word_of head 8) rest (4 * word_of head 4)
    (answer_as
    (obstacle_call
    (record { position = vector_at head 20; velocity = vector_at head 28 })
    (word_of head 0)
    (first_numbers rest (word_of head 4))
    (long_at head 12)
    (number_at head 36)
    (number_at head 40))))
