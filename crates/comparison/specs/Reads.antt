-- Two files compared read by read: what is kept between two reads, and where a read leads (02, T-09). Definitions only.
-- Assumes nothing.
use Rattle.std.specs.Prelude.{ℕ, ◌≡◌, Bool, true, false, ◌&&◌, List, [], ◌∷◌, ◌++◌, ltb, length, drop, Option, Some, None}
use Rattle.answer_records.specs.Answers.{longest_answer}
use Rattle.records.specs.Turns.{Turned, turned}
use Rattle.comparison.specs.Verdicts.{Compared, Progress}
use Rattle.comparison.specs.Comparing.{compared_from, advanced}

-- what is kept between two reads: bytes of the scenes, as `records` keeps them, and whether there may be more of them;
-- our answers and theirs that are not compared yet, and whether there may be more of theirs; the next place
pub record Kept : Type 0 where
  pub scenes : List ℕ
  pub skip : ℕ
  pub more_scenes : Bool
  pub ours : List ℕ
  pub theirs : List ℕ
  pub more_answers : Bool
  pub place : ℕ

abbrev pub start : Kept
start = record { scenes = []; skip = 0; more_scenes = true; ours = []; theirs = []; more_answers = true; place = 0 }

-- a read of the scenes is worked as `feed` works it
abbrev pub answering : Kept → Turned → Kept
answering k t = record {
  scenes = t.kept;
  skip = t.skip;
  more_scenes = t.more;
  ours = k.ours ++ t.answers;
  theirs = k.theirs;
  more_answers = k.more_answers;
  place = k.place;
}

abbrev pub with_scenes : Kept → List ℕ → Kept
with_scenes k read = answering k (turned k.scenes k.skip read)

-- a read that brings nothing has met the end
abbrev pub is_some : List ℕ → Bool
is_some [] = false
is_some (b ∷ l) = true

abbrev pub with_answers : Kept → List ℕ → Kept
with_answers k read = record {
  scenes = k.scenes;
  skip = k.skip;
  more_scenes = k.more_scenes;
  ours = k.ours;
  theirs = k.theirs ++ read;
  more_answers = is_some read;
  place = k.place;
}

-- the verdict is told, or it goes on with what is kept
pub data Stepped : Type 0 where
  told : Compared → Stepped
  goes_on : Kept → Stepped

abbrev pub leaving : Kept → Progress → Kept
leaving k p = record {
  scenes = k.scenes;
  skip = k.skip;
  more_scenes = k.more_scenes;
  ours = drop p.ours k.ours;
  theirs = drop p.theirs k.theirs;
  more_answers = k.more_answers;
  place = p.place;
}

abbrev pub stepped_by : Kept → Option Compared → Stepped
stepped_by next None = goes_on next
stepped_by next (Some verdict) = told verdict

-- both sides are compared as far as whole records reach
unfoldable pub compared_on : Kept → Stepped
compared_on k = let p = advanced k.place k.ours k.theirs in stepped_by (leaving k p) p.found

-- a side wants more where fewer bytes wait than the longest answer has, and there may be more
unfoldable pub wants : ℕ → Bool → Bool
wants waiting more = ltb waiting longest_answer && more

-- A run over what is left of both files, however it is cut into reads, and the verdict that it tells: reads of either file in any
-- order, of which one that brings nothing has met that file's end; and the end of the run, where neither side wants more.
pub data Runs : Kept → List ℕ → List ℕ → Compared → Type 0 where
  scenes-told : {k : Kept} {read rest scenes answers : List ℕ} {verdict : Compared} → k.more_scenes ≡ true →
      scenes ≡ read ++ rest → (read ≡ [] → rest ≡ []) →
      compared_on (with_scenes k read) ≡ told verdict → Runs k scenes answers verdict
  scenes-on : {k next : Kept} {read rest scenes answers : List ℕ} {verdict : Compared} → k.more_scenes ≡ true →
      scenes ≡ read ++ rest → (read ≡ [] → rest ≡ []) →
      compared_on (with_scenes k read) ≡ goes_on next → Runs next rest answers verdict → Runs k scenes answers verdict
  answers-told : {k : Kept} {read rest scenes answers : List ℕ} {verdict : Compared} → answers ≡ read ++ rest →
      (read ≡ [] → rest ≡ []) →
      compared_on (with_answers k read) ≡ told verdict → Runs k scenes answers verdict
  answers-on : {k next : Kept} {read rest scenes answers : List ℕ} {verdict : Compared} → answers ≡ read ++ rest →
      (read ≡ [] → rest ≡ []) →
      compared_on (with_answers k read) ≡ goes_on next → Runs next scenes rest verdict → Runs k scenes answers verdict
  enough : {k : Kept} {scenes answers : List ℕ} → wants (length k.ours) k.more_scenes ≡ false →
      wants (length k.theirs) k.more_answers ≡ false →
      Runs k scenes answers (compared_from k.place k.ours k.theirs)
