-- The index's bytes (02, T-10: "a four-byte length of the rest, version byte 1, the log's byte length, the record count, then
-- the entries"), and how bytes are put into a lent buffer. Definitions only. Assumes nothing.
use Rattle.std.specs.Prelude.{ℕ, zero, suc, ◌+◌, ◌*◌, ◌/◌, ◌%◌, List, [], ◌∷◌, ◌++◌, eqb, leb, length, take, drop, Result, Ok, Err}
use Rattle.arithmetic.specs.Binary32.{when◌then◌else◌}
use Rattle.words.specs.Words.{word_bytes}
use Rattle.admission.specs.Faults.{must, unless_fault}
use Rattle.answer_logs.specs.Logs.{Entry}
use Rattle.log_walks.specs.Figures.{sizes, fallbacks}

-- an entry for every so many records
abbrev pub apart : ℕ
apart = 64

abbrev pub index_version : ℕ
index_version = 1

-- the bytes before the entries, and of an entry
abbrev pub head_bytes : ℕ
head_bytes = 13

abbrev pub entry_bytes : ℕ
entry_bytes = 8

-- those up to the first entry, that included
abbrev pub start_bytes : ℕ
start_bytes = 21

-- the greatest number in four bytes
abbrev pub greatest : ℕ
greatest = 4294967295

-- "for 0 and each multiple of 64 up to and including the record count"
abbrev pub entries_for : ℕ → ℕ
entries_for count = count / apart + 1

abbrev pub index_length : ℕ → ℕ
index_length count = head_bytes + entry_bytes * entries_for count

-- where "the last entry at or before" a record stands
abbrev pub entry_place : ℕ → ℕ
entry_place a = head_bytes + entry_bytes * (a / apart)

-- "the byte offset of that record (or of the log's end) and the number of fallbacks before it"
unfoldable pub entry_with : ℕ → ℕ → List ℕ
entry_with offset before = word_bytes offset ++ word_bytes before

unfoldable pub entry_of : List Entry → ℕ → List ℕ
entry_of l j = entry_with (sizes (take (apart * j) l)) (fallbacks (take (apart * j) l))

-- n entries from the j-th on
unfoldable pub entries : List Entry → ℕ → ℕ → List ℕ
entries l j zero = []
entries l j (suc n) = entry_of l j ++ entries l (suc j) n

-- the length field counts the bytes behind its own four
unfoldable pub head : ℕ → ℕ → List ℕ
head log_length count = word_bytes (9 + entry_bytes * entries_for count) ++ (index_version ∷ (word_bytes log_length ++ word_bytes count))

-- the index of a log with these records
unfoldable pub index_of : ℕ → List Entry → List ℕ
index_of log_length l = head log_length (length l) ++ entries l 0 (entries_for (length l))

-- the fields before the entries, and the entry for 0
unfoldable pub start_of : ℕ → ℕ → List ℕ
start_of log_length count = head log_length count ++ entry_with 0 0

-- the entry that a record count calls for, if any
unfoldable pub new_entry : ℕ → ℕ → ℕ → List ℕ
new_entry count offset before = when eqb (count % apart) 0 then entry_with offset before else []

-- ---- what is told, and what a lent buffer holds then

pub record Standing (A : Type 0) : Type 0 where
  pub told : A
  pub contents : List ℕ

abbrev pub standing : {A : Type 0} → A → List ℕ → Standing A
standing t l = record { told = t; contents = l }

-- the bytes of an index that was written, or the number of a refusal
abbrev pub IndexWritten : Type 0
IndexWritten = Result ℕ ℕ

abbrev pub refused_over : List ℕ → ℕ → Standing IndexWritten
refused_over buffer r = standing (Err r) buffer

-- bytes at a buffer's start, and behind them what stood there
unfoldable pub laid_over : List ℕ → List ℕ → List ℕ
laid_over bytes buffer = bytes ++ drop (length bytes) buffer

-- bytes that are put there, or 10 where they do not fit, which leaves everything
unfoldable pub put_over : {A : Type 0} → (ℕ → A) → A → List ℕ → List ℕ → Standing A
put_over refused told bytes buffer =
    unless_fault (λ r. standing (refused r) buffer) (must (leb (length bytes) (length buffer)) 10)
    (standing told (laid_over bytes buffer))

abbrev pub put_index : List ℕ → List ℕ → Standing IndexWritten
put_index bytes buffer = put_over Err (Ok (length bytes)) bytes buffer
