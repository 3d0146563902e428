-- Records of the set `lists`, by the definitions of the crate `linear_programming`. Definitions only. Assumes nothing.
use Rattle.std.specs.Prelude.{ℕ, ◌+◌, ◌*◌, Bool, ◌&&◌, List, leb}
use Rattle.words.specs.Words.{word_of}
use Rattle.common.specs.Vectors.{vec}
use Rattle.linear_programming.specs.Whole.{no_line, Outcome, stands, refusal}
use Rattle.linear_programming.specs.Admit.{list_call}
use Rattle.replay_records.specs.Answers.{number_at, vector_at}
use Rattle.replay_records.specs.Records.{first_numbers}
use Rattle.replay_standings.specs.Standings.{nought, is_told, is_standing}

-- whether an outcome is the answer at a place; a refusal is told by its number and nothing else
unfoldable pub is_answer : List ℕ → ℕ → Outcome → Bool
is_answer s at (stands p f n) = is_standing s at p f n
is_answer s at (refusal r) = is_told s at (100 + r) (vec nought nought) nought no_line 0

-- whether the answer behind the numbers is the one to the list that they and the head make
unfoldable pub is_replayed : List ℕ → List ℕ → Bool
is_replayed head rest =
    leb (word_of head 0) 1280
    && is_answer rest (4 * word_of head 0)
    (list_call (word_of head 4) (vector_at head 12) (number_at head 8) (first_numbers rest (word_of head 0)))
