-- The figures of the daily tally, each over the list of a log's records (02, T-02). Definitions only. Assumes nothing.
use Rattle.std.specs.Prelude.{ℕ, zero, suc, ◌+◌, max, Bool, false, not, List, [], ◌∷◌, ◌==◌, Result, Ok, Err}
use Rattle.arithmetic.specs.Binary32.{when◌then◌else◌}
use Rattle.admission.specs.declared.refusal.Refusal.{Refusal}
use Rattle.admission.specs.Refusals.{number_of}
use Rattle.answer_records.specs.Answers.{no_failed_line}
use Rattle.answer_logs.specs.Logs.{Entry, outcome, refusal, Records, whole, refused_at}
use Rattle.daily_tally.specs.declared.DayTally.{DayTally}
use Rattle.daily_tally.specs.declared.RefusedAt.{RefusedAt}

-- the sum of a number of the records, and the largest; of none each is 0
unfoldable pub sum_of : (Entry → ℕ) → List Entry → ℕ
sum_of number [] = 0
sum_of number (e ∷ l) = number e + sum_of number l

unfoldable pub largest_of : (Entry → ℕ) → List Entry → ℕ
largest_of number [] = 0
largest_of number (e ∷ l) = max (number e) (largest_of number l)

-- how many records pass a test: each of them is one
unfoldable pub one : Bool → ℕ
one b = when b then 1 else 0

unfoldable pub count_of : (Entry → Bool) → List Entry → ℕ
count_of test l = sum_of (λ e. one (test e)) l

-- an answer of the outcome; a refusal of the number; an answer that names a failed line, whatever its outcome
abbrev pub is_outcome : ℕ → Entry → Bool
is_outcome code (outcome a) = a.code == code
is_outcome code (refusal n) = false

abbrev pub is_refusal : ℕ → Entry → Bool
is_refusal number (outcome a) = false
is_refusal number (refusal n) = n == number

abbrev pub names_failed : Entry → Bool
names_failed (outcome a) = not (a.failed == no_failed_line)
names_failed (refusal n) = false

-- the probes of an answer; a refusal has none
abbrev pub probes_of : Entry → ℕ
probes_of (outcome a) = a.probes
probes_of (refusal n) = 0

-- a figure for each number below n
unfoldable pub below : ℕ → (ℕ → ℕ) → List ℕ
below zero figure = []
below (suc n) figure = figure 0 ∷ below n (λ k. figure (suc k))

-- "how many answers of each outcome, how many refusals of each number, the sum and the largest of the probes, and how
-- many answers name a failed line"
unfoldable pub tally_of : List Entry → DayTally
tally_of l = record {
  outcomes = below 6 (λ code. count_of (is_outcome code) l);
  refusals = below 16 (λ number. count_of (is_refusal number) l);
  probes = sum_of probes_of l;
  largest = largest_of probes_of l;
  failed = count_of names_failed l;
}

-- whether the walk came to the log's end, or the refusal's number and the place of the record that is refused
pub data Walked : Type 0 where
  to-end : Walked
  stopped : ℕ → ℕ → Walked

-- how the walk ended, and the figures; beside a refusal every figure is 0
pub record Tallied : Type 0 where
  pub walked : Walked
  pub tally : DayTally

-- "with no partial tally"; "the record's place, counted from 0, is returned beside the number"
unfoldable pub tallied : Records → Tallied
tallied (whole l) = record { walked = to-end; tally = tally_of l }
tallied (refused_at n place) = record { walked = stopped n place; tally = tally_of [] }

-- what the code says of it
abbrev pub refused_by : Refusal → ℕ → RefusedAt
refused_by r place = record { refusal = r; place = place }

abbrev pub tallied_of : Result DayTally RefusedAt → Tallied
tallied_of (Ok t) = record { walked = to-end; tally = t }
tallied_of (Err e) = record { walked = stopped (number_of e.refusal) e.place; tally = tally_of [] }
