-- How a log of answer records is cut into records, and the list of them (02, T-02). Definitions only. Assumes nothing.
use Rattle.std.specs.Prelude.{ℕ, zero, suc, ◌+◌, List, [], ◌∷◌, take, drop, Option, Some, None, Result, Ok, Err}
use Rattle.std.specs.Borrow.{Bor}
use Rattle.words.specs.Words.{pair_of}
use Rattle.admission.specs.declared.refusal.Refusal.{Refusal}
use Rattle.admission.specs.Refusals.{number_of}
use Rattle.answer_records.specs.declared.Answer.{Answer}
use Rattle.answer_records.specs.declared.Reply.{Reply}
use Rattle.answer_records.specs.declared.Reply.TheVariants as reply
use Rattle.answer_records.specs.Replies as said
use Rattle.answer_records.specs.Replies.{Said, answer_in}
use Rattle.answer_logs.specs.declared.AnswerLog.{AnswerLog}

-- a record of a log: an outcome, or a scene's refusal by its number
pub data Entry : Type 0 where
  outcome : Answer → Entry
  refusal : ℕ → Entry

-- what stands at the start of the bytes: nothing; a bad record, by the number of its fault; a record and the count of its bytes
pub data Found : Type 0 where
  ended : Found
  bad : ℕ → Found
  entry : Entry → ℕ → Found

abbrev pub found_as : ℕ → Said → Found
found_as size (said.outcome a) = entry (outcome a) size
found_as size (said.refusal n) = entry (refusal n) size
found_as size (said.unreadable n) = bad n

-- the bytes of a record: the two of its length, and as many as they name
unfoldable pub size_in : List ℕ → ℕ
size_in s = 2 + pair_of s 0

-- the first record is read by itself; one that is cut short does not match its length
unfoldable pub found_in : List ℕ → Found
found_in [] = ended
found_in (x ∷ s) = found_as (size_in (x ∷ s)) (answer_in (take (size_in (x ∷ s)) (x ∷ s)))

-- what stands at a byte of a log: nothing, at its end; a bad record, by the number of its fault; a record and the byte behind it
pub data Logged : Type 0 where
  nothing : Logged
  faulty : ℕ → Logged
  placed : Entry → ℕ → Logged

-- what a record says, with the byte behind the record
abbrev pub replied_as : ℕ → Said → Logged
replied_as behind (said.outcome a) = placed (outcome a) behind
replied_as behind (said.refusal n) = placed (refusal n) behind
replied_as behind (said.unreadable n) = faulty n

abbrev pub logged_as : ℕ → Found → Logged
logged_as at ended = nothing
logged_as at (bad n) = faulty n
logged_as at (entry e size) = placed e (at + size)

-- what stands at a byte of a log, with the byte behind it
unfoldable pub logged_at : List ℕ → ℕ → Logged
logged_at log at = logged_as at (found_in (drop at log))

-- what the code says of it
abbrev pub entry_of : Reply → Entry
entry_of (reply.Outcome a) = outcome a
entry_of (reply.Refusal r) = refusal (number_of r)

abbrev pub logged_of : Result (Option (Reply × ℕ)) Refusal → Logged
logged_of (Ok (Some (r, behind))) = placed (entry_of r) behind
logged_of (Ok None) = nothing
logged_of (Err r) = faulty (number_of r)

-- the reader of a log from a byte on
abbrev pub reader_at : Bor (List ℕ) → ℕ → AnswerLog
reader_at log at = record { log = log; at = at }

-- what a reader hands on, which stands at a byte then
abbrev pub handed_on : ℕ → Result (Option Reply) Refusal → Logged
handed_on behind (Ok (Some r)) = placed (entry_of r) behind
handed_on behind (Ok None) = nothing
handed_on behind (Err r) = faulty (number_of r)

-- the reader behind what stood there
abbrev pub reader_behind : AnswerLog → Logged → AnswerLog
reader_behind reader (placed e behind) = reader_at reader.log behind
reader_behind reader nothing = reader
reader_behind reader (faulty n) = reader

-- all records of a log; or the refusal's number, and the place of the record that is refused, counted from 0
pub data Records : Type 0 where
  whole : List Entry → Records
  refused_at : ℕ → ℕ → Records

abbrev pub ahead : Entry → Records → Records
ahead e (whole l) = whole (e ∷ l)
ahead e (refused_at n place) = refused_at n place

-- "4 where a 4,294,967,296th record would begin": its bytes are not looked at
abbrev pub no_more : ℕ → List ℕ → Records
no_more place [] = whole []
no_more place (x ∷ s) = refused_at 4 place

-- "1 or 2 at the first bad record"; behind a record the walk goes on
abbrev pub onward : ℕ → (ℕ → Records) → Found → Records
onward place more ended = whole []
onward place more (bad n) = refused_at n place
onward place more (entry e size) = ahead e (more size)

-- the records in the bytes, the first of them at the place, where so many more may begin
unfoldable pub records_from : ℕ → ℕ → List ℕ → Records
records_from zero place s = no_more place s
records_from (suc left) place s = onward place (λ size. records_from left (place + 1) (drop size s)) (found_in s)

-- 02's limit
abbrev pub most_records : ℕ
most_records = 4294967295

-- the records of a log, where so many may begin
unfoldable pub records_in : ℕ → List ℕ → Records
records_in most log = records_from most 0 log
