-- A tally with one record more (02, T-02). Definitions only. Assumes nothing.
use Rattle.std.specs.Prelude.{ℕ, ◌+◌, ◌%◌, ◌^◌, ◌<◌, max, not, List, ◌==◌, slice_index, slice_set}
use Rattle.answer_records.specs.declared.Answer.{Answer}
use Rattle.answer_records.specs.Answers.{no_failed_line}
use Rattle.answer_logs.specs.Logs.{Entry, outcome, refusal}
use Rattle.daily_tally.specs.declared.DayTally.{DayTally}
use Rattle.daily_tally.specs.Figures.{one}

-- a sum in 64 bits, which wraps
abbrev pub sum64 : ℕ → ℕ → ℕ
sum64 a b = (a + b) % 2 ^ 64

-- one more at an index, by a way to add
abbrev pub one_more : (ℕ → ℕ → ℕ) → List ℕ → ℕ → List ℕ
one_more plus l i = slice_set l i (plus (slice_index l i) 1)

unfoldable pub names_line : ℕ → ℕ
names_line failed = one (not (failed == no_failed_line))

unfoldable pub with_outcome : (ℕ → ℕ → ℕ) → DayTally → Answer → DayTally
with_outcome plus t a = record {
  outcomes = one_more plus t.outcomes a.code;
  refusals = t.refusals;
  probes = plus t.probes a.probes;
  largest = max t.largest a.probes;
  failed = plus t.failed (names_line a.failed);
}

unfoldable pub with_refusal : (ℕ → ℕ → ℕ) → DayTally → ℕ → DayTally
with_refusal plus t n = record {
  outcomes = t.outcomes;
  refusals = one_more plus t.refusals n;
  probes = t.probes;
  largest = t.largest;
  failed = t.failed;
}

-- a record that has a place among the figures
abbrev pub has_place : Entry → Type 0
has_place (outcome a) = a.code < 6
has_place (refusal n) = n < 16

abbrev pub with_entry : (ℕ → ℕ → ℕ) → DayTally → Entry → DayTally
with_entry plus t (outcome a) = with_outcome plus t a
with_entry plus t (refusal n) = with_refusal plus t n
