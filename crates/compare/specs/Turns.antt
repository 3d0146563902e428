-- What a turn of the program does with what a read brings: a step of `Runs` (02, T-09). Definitions only. Assumes nothing.
use Rattle.std.specs.Prelude.{ℕ, ◌+◌, ◌*◌, ◌≤◌, ◌≡◌, true, false, List, length, take, Option, Some, None}
use Rattle.scene_records.specs.Versions.{longest_either}
use Rattle.answer_records.specs.Answers.{longest_answer}
use Rattle.comparison.specs.Verdicts.{found_of}
use Rattle.comparison.specs.Comparing.{compared_from}
use Rattle.comparison.specs.Reads.{Kept, with_scenes, with_answers, stepped_by, compared_on, wants}
use Rattle.compare.specs.declared.Reading.{Reading}

-- how many bytes a read brings
abbrev pub brought_in : Option ℕ → ℕ
brought_in (Some n) = n
brought_in None = 0

-- what a reading keeps, over the three buffers
abbrev pub kept_in : Reading → List ℕ → List ℕ → List ℕ → Kept
kept_in r input ours theirs = record {
  scenes = take r.stream.kept input;
  skip = r.stream.skip;
  more_scenes = r.stream.more;
  ours = take r.ours ours;
  theirs = take r.theirs theirs;
  more_answers = r.more;
  place = r.place;
}

-- before the first read: with it, `kept_in` is the start of a run
abbrev pub beginning : Reading
beginning = record {
  stream = record { put = 0; kept = 0; skip = 0; more = true };
  ours = 0;
  theirs = 0;
  more = true;
  place = 0;
  found = None;
}

-- so many bytes of each side
abbrev pub counted : Reading → ℕ → ℕ → Reading
counted r mine other = record {
  stream = r.stream;
  ours = mine;
  theirs = other;
  more = r.more;
  place = r.place;
  found = r.found;
}

-- both sides were compared as far as whole records reach, and what is left of each is kept
pub record Advances (before : Reading) (mine : ℕ) (ours : List ℕ) (other : ℕ) (theirs : List ℕ) (next : Reading)
    (mine-then other-then : List ℕ) : Type 0 where
  pub stream : next.stream ≡ before.stream
  pub ours-fit : next.ours ≤ length mine-then
  pub theirs-fit : next.theirs ≤ length other-then
  pub went : (input : List ℕ) → stepped_by (kept_in next input mine-then other-then) (found_of next.found)
      ≡ compared_on (kept_in (counted before mine other) input ours theirs)

-- buffers of which each read may fill 64 KiB and more, with room for all answers to a read behind those that wait
pub record Ready (input ours theirs : ℕ) (r : Reading) : Type 0 where
  pub long : 65536 + (1 + longest_either) ≤ input
  pub room : 2 * input + longest_answer + longest_answer ≤ ours
  pub wide : 65536 + longest_answer ≤ theirs
  pub few : r.stream.kept ≤ 1 + longest_either
  pub ours-fit : r.ours ≤ ours
  pub theirs-fit : r.theirs ≤ theirs

-- What a turn comes to, unless a read failed: some read brought scenes or answers, of which one that brought nothing met the end; or
-- neither side wants more, and the verdict is told.
pub data Follows (before : Reading) (input ours theirs : List ℕ) (next : Reading)
    (input-then ours-then theirs-then : List ℕ) : Type 0 where
  of-scenes : before.stream.more ≡ true → (read : List ℕ) →
      stepped_by (kept_in next input-then ours-then theirs-then) (found_of next.found)
      ≡ compared_on (with_scenes (kept_in before input ours theirs) read) →
      Follows before input ours theirs next input-then ours-then theirs-then
  of-answers : (read : List ℕ) →
      stepped_by (kept_in next input-then ours-then theirs-then) (found_of next.found)
      ≡ compared_on (with_answers (kept_in before input ours theirs) read) →
      Follows before input ours theirs next input-then ours-then theirs-then
  at-end : wants (length (take before.ours ours)) before.stream.more ≡ false →
      wants (length (take before.theirs theirs)) before.more ≡ false →
      found_of next.found ≡ Some (compared_from before.place (take before.ours ours) (take before.theirs theirs)) →
      Follows before input ours theirs next input-then ours-then theirs-then
