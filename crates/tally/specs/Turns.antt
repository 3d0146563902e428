-- What a turn of the program does with what was read: the steps of the daily tally (02, T-02). Definitions only. Assumes nothing.
use Rattle.std.specs.Prelude.{ℕ, ◌-◌, ◌≤◌, ◌<◌, ◌≡◌, List, length, take}
use Rattle.kept.specs.Kept.{shifted}
use Rattle.answer_logs.specs.Logs.{most_records}
use Rattle.daily_tally.specs.Figures.{Walked, Tallied, tallied_of}
use Rattle.daily_tally.specs.Figures as walked
use Rattle.daily_tally.specs.Steps.{told_refused, Advance, advanced, finished}
use Rattle.tally.specs.declared.Stage.{Stage}
use Rattle.tally.specs.declared.Stage.TheVariants as stage
use Rattle.tally.specs.declared.Reading.{Reading}

-- what a turn comes to: there may be more to read, the walk has ended, or a read has failed
pub data Turned : Type 0 where
  more : Reading → Turned
  ended : Tallied → Turned
  unread : Turned

abbrev pub turned_of : Stage → Turned
turned_of (stage.Open r) = more r
turned_of (stage.Ended told) = ended (tallied_of told)
turned_of stage.Failed = unread

-- what it comes to, and what the input holds then
pub record Held : Type 0 where
  pub turned : Turned
  pub input : List ℕ

abbrev pub held : Turned → List ℕ → Held
held t input = record { turned = t; input = input }

-- the end of the input, behind the bytes that are left
unfoldable pub ended_over : List ℕ → Reading → Turned
ended_over rest before = ended (finished most_records rest before.place before.tally)

-- behind whole records it goes on, and what is left of the bytes waits at the input's start; a refusal ends it
abbrev pub went_on : List ℕ → ℕ → Advance → Walked → Held
went_on input there p walked.to-end =
    held (more (record { kept = there - p.used; place = p.place; tally = p.tally })) (shifted p.used (there - p.used) input)
went_on input there p (walked.stopped n at) = held (ended (told_refused n at)) input

abbrev pub read_as : List ℕ → ℕ → Advance → Held
read_as input there p = went_on input there p p.walked

-- the input's first bytes, tallied behind those before them
unfoldable pub read_over : List ℕ → ℕ → Reading → Held
read_over input there before = read_as input there (advanced most_records (take there input) before.place before.tally)

-- What a turn comes to: the read failed; it met the end, and what was kept is all that is left; or it put bytes behind
-- those that were kept, and so many are there. Where the input does not hold what was kept, nothing is done.
pub data Follows (before : Reading) (input : List ℕ) (next : Turned) (after : List ℕ) : Type 0 where
  failed : next ≡ unread → Follows before input next after
  at-end : next ≡ ended_over (take before.kept input) before → Follows before input next after
  brought : (filled : List ℕ) (there : ℕ) → take before.kept filled ≡ take before.kept input →
      before.kept ≤ there → there ≤ length filled →
      held next after ≡ read_over filled there before → Follows before input next after
  no_room : length input < before.kept → next ≡ more before → Follows before input next after
