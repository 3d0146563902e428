-- The question as a function of just the parts that it rests on, and of a whole log and index, which hand those parts over
-- (02, T-10). Definitions only. Assumes nothing.
use Rattle.std.specs.Prelude.{ℕ, ◌+◌, ◌-◌, ◌*◌, ◌%◌, List, eqb, leb, ltb, length, take, drop, get_or, Result, Ok, Err}
use Rattle.arithmetic.specs.Binary32.{when◌then◌else◌}
use Rattle.words.specs.Words.{word_of}
use Rattle.admission.specs.Faults.{Fault, must, ◌⊳◌, unless_fault}
use Rattle.answer_records.specs.Answers.{longest_answer}
use Rattle.log_walks.specs.Walks.{Met, more, walked}
use Rattle.index_building.specs.Indexes.{apart, index_version, head_bytes, entry_bytes, index_length, entry_place}

-- ---- the parts' numbers

abbrev pub named_rest : List ℕ → ℕ
named_rest head = word_of head 0

abbrev pub named_log : List ℕ → ℕ
named_log head = word_of head 5

abbrev pub named_count : List ℕ → ℕ
named_count head = word_of head 9

abbrev pub offset_in : List ℕ → ℕ
offset_in entry = word_of entry 0

abbrev pub before_in : List ℕ → ℕ
before_in entry = word_of entry 4

-- ---- the question of its parts

-- "2 for an index whose length does not match its bytes, 1 for its version, 2 for missing fields or an entry number that is
-- not the record count over 64, rounded down, plus 1"
unfoldable pub head_fault : ℕ → List ℕ → Fault
head_fault n head =
    must (leb 4 n) 2
    ⊳ must (eqb n (4 + named_rest head)) 2
    ⊳ must (leb 5 n) 2
    ⊳ must (eqb (get_or head 4 0) index_version) 1
    ⊳ must (leb head_bytes n) 2
    ⊳ must (eqb n (index_length (named_count head))) 2

-- "13 if a > b or b is over the record count; 2 if an entry used points beyond the log"
unfoldable pub range_fault : ℕ → ℕ → ℕ → ℕ → ℕ → ℕ → Fault
range_fault log_length count offset_a offset_b a b =
    must (leb a b) 13 ⊳ must (leb b count) 13 ⊳ must (leb offset_a log_length) 2 ⊳ must (leb offset_b log_length) 2

-- "12 if the log's byte length is not the one the index names", before those
unfoldable pub places_fault : ℕ → ℕ → ℕ → ℕ → ℕ → ℕ → ℕ → Fault
places_fault log_length named count offset_a offset_b a b =
    must (eqb log_length named) 12 ⊳ range_fault log_length count offset_a offset_b a b

-- the fallbacks before a record, by its entry and the walk from there
unfoldable pub before : ℕ → List ℕ → List ℕ → Met
before n entry stretch = more (before_in entry) (walked n stretch)

-- how many fallbacks lie between two records, or the number of a refusal
abbrev pub Fallbacks : Type 0
Fallbacks = Result ℕ ℕ

-- "1 or 2 at a bad record on the walk to a, then on that to b; 2 if fewer fallbacks are found before b than before a"
abbrev pub between : Met → Met → Fallbacks
between (Err r) y = Err r
between (Ok m) (Err r) = Err r
between (Ok m) (Ok n) = when ltb n m then Err 2 else Ok (n - m)

-- the two lengths, the index's first bytes, two entries, and the log from where each of them points
unfoldable pub question_of : ℕ → ℕ → List ℕ → List ℕ → List ℕ → List ℕ → List ℕ → ℕ → ℕ → Fallbacks
question_of log_length length head entry_a entry_b stretch_a stretch_b a b =
    unless_fault Err
    (head_fault length head ⊳ places_fault log_length (named_log head) (named_count head) (offset_in entry_a) (offset_in entry_b) a b)
    (between (before (a % apart) entry_a stretch_a) (before (b % apart) entry_b stretch_b))

-- ---- the parts of a whole log and index

unfoldable pub head_in : List ℕ → List ℕ
head_in index = take head_bytes index

-- "the last entry at or before" a record
unfoldable pub entry_in : List ℕ → ℕ → List ℕ
entry_in index a = take entry_bytes (drop (entry_place a) index)

-- the bytes that the records from there to it can have
abbrev pub stretch_bytes : ℕ → ℕ
stretch_bytes a = longest_answer * (a % apart)

-- the log from where the entry points
unfoldable pub stretch_in : List ℕ → List ℕ → ℕ → List ℕ
stretch_in log entry a = take (stretch_bytes a) (drop (offset_in entry) log)

unfoldable pub question_in : List ℕ → List ℕ → ℕ → ℕ → Fallbacks
question_in log index a b =
    question_of (length log) (length index) (head_in index) (entry_in index a) (entry_in index b)
    (stretch_in log (entry_in index a) a) (stretch_in log (entry_in index b) b) a b
