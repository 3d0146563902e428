-- The records of a part of a log, as far as whole records reach (02, T-02). Definitions only. Assumes nothing.
use Rattle.std.specs.Prelude.{ℕ, zero, suc, ◌+◌, Bool, ◌&&◌, ◌||◌, List, [], ◌∷◌, leb, ltb, length, drop}
use Rattle.arithmetic.specs.Binary32.{when◌then◌else◌}
use Rattle.answer_records.specs.Answers.{longest_answer}
use Rattle.answer_logs.specs.Logs.{Entry, Logged, Found, ended, bad, entry, size_in, found_in, logged_as}

-- bytes that may be the start of a record which is not all there: its length is missing, or it names no more bytes than
-- an answer has, and some are missing
unfoldable pub waits : List ℕ → Bool
waits s = ltb (length s) 2 || (leb (size_in s) longest_answer && ltb (length s) (size_in s))

-- what stands at the start of a part: nothing, where it waits for more
unfoldable pub found_whole : List ℕ → Found
found_whole s = when waits s then ended else found_in s

-- the record at a byte of a part, with the byte behind it
unfoldable pub whole_at : List ℕ → ℕ → Logged
whole_at part at = logged_as at (found_whole (drop at part))

-- the records of a part and the count of their bytes; or the refusal's number, and the place of the record that is refused
pub data Wholes : Type 0 where
  reached : List Entry → ℕ → Wholes
  stopped : ℕ → ℕ → Wholes

abbrev pub ahead_whole : Entry → ℕ → Wholes → Wholes
ahead_whole e size (reached l used) = reached (e ∷ l) (size + used)
ahead_whole e size (stopped n place) = stopped n place

-- where no more may begin, any byte is refused
abbrev pub no_more_whole : ℕ → List ℕ → Wholes
no_more_whole place [] = reached [] 0
no_more_whole place (x ∷ s) = stopped 4 place

abbrev pub onward_whole : ℕ → (ℕ → Wholes) → Found → Wholes
onward_whole place more ended = reached [] 0
onward_whole place more (bad n) = stopped n place
onward_whole place more (entry e size) = ahead_whole e size (more size)

-- the records of a part, the first of them at the place, where so many more may begin
unfoldable pub wholes_from : ℕ → ℕ → List ℕ → Wholes
wholes_from zero place s = no_more_whole place s
wholes_from (suc left) place s = onward_whole place (λ size. wholes_from left (place + 1) (drop size s)) (found_whole s)
