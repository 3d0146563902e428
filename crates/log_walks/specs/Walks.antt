-- A walk over some records from the start of the bytes, and how many bytes it rests on (02, T-10). Definitions only.
-- Assumes nothing.
use Rattle.std.specs.Prelude.{ℕ, zero, suc, ◌+◌, List, leb, drop, Option, Some, None, Result, Ok, Err}
use Rattle.arithmetic.specs.Binary32.{when◌then◌else◌}
use Rattle.answer_records.specs.Answers.{longest_answer}
use Rattle.answer_logs.specs.Logs.{Found, ended, bad, entry, size_in, found_in}
use Rattle.answer_logs.specs.Logs.{Entry, Logged, nothing, faulty, placed, logged_at}
use Rattle.log_walks.specs.Figures.{fallback, fallback_by}

-- the fallbacks met on a walk, or the number of the first bad record's fault
abbrev pub Met : Type 0
Met = Result ℕ ℕ

-- n fallbacks more
abbrev pub more : ℕ → Met → Met
more n (Ok m) = Ok (n + m)
more n (Err r) = Err r

-- a bad record is told, and the log's end as 2; behind a record `next` goes on
abbrev pub onward : (ℕ → Met) → Found → Met
onward next ended = Err 2
onward next (bad r) = Err r
onward next (entry e size) = more (fallback e) (next size)

-- the fallbacks among n records
unfoldable pub walked : ℕ → List ℕ → Met
walked zero s = Ok 0
walked (suc n) s = onward (λ size. walked n (drop size s)) (found_in s)

-- ---- the bytes that a walk rests on

-- a record's own bytes; one that names more than an answer has is bad by those that an answer has
unfoldable pub own_bytes : List ℕ → ℕ
own_bytes s = when leb (size_in s) longest_answer then size_in s else longest_answer

abbrev pub reach_by : ℕ → (ℕ → ℕ) → Found → ℕ
reach_by own next ended = 0
reach_by own next (bad r) = own
reach_by own next (entry e size) = own + next size

-- up to where it stops: behind the last record walked, or behind the bad record's own bytes
unfoldable pub reach : ℕ → List ℕ → ℕ
reach zero s = 0
reach (suc n) s = reach_by (own_bytes s) (λ size. reach n (drop size s)) (found_in s)

-- ---- a step of a walk

-- a record by the byte behind it and 1 for a fallback; a bad one by its number; or the end
abbrev pub Passed : Type 0
Passed = Result (Option (ℕ × ℕ)) ℕ

abbrev pub passed_by : Logged → Passed
passed_by nothing = Ok None
passed_by (faulty r) = Err r
passed_by (placed e behind) = Ok (Some (behind, fallback e))

abbrev pub passed_at : List ℕ → ℕ → Passed
passed_at log at = passed_by (logged_at log at)

-- the same in what the code says, whatever a record is and whatever it is refused with
abbrev pub passed : {R E : Type 0} → (R → Option ℕ) → Result (Option (R × ℕ)) E → Result (Option (ℕ × ℕ)) E
passed code_of (Ok None) = Ok None
passed code_of (Err e) = Err e
passed code_of (Ok (Some (r, behind))) = Ok (Some (behind, fallback_by (code_of r)))

-- a result by a number for what it refuses with
abbrev pub told_by : {A E : Type 0} → (E → ℕ) → Result A E → Result A ℕ
told_by number (Ok a) = Ok a
told_by number (Err e) = Err (number e)

-- what stands at a byte of a log, by such a number and the entry that a record is
abbrev pub logged_by : {R E : Type 0} → (R → Entry) → (E → ℕ) → Result (Option (R × ℕ)) E → Logged
logged_by entry_in number (Ok None) = nothing
logged_by entry_in number (Err e) = faulty (number e)
logged_by entry_in number (Ok (Some (r, behind))) = placed (entry_in r) behind
