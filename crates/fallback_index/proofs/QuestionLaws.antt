-- Laws of a question: what it rests on, and that a built index answers as the full walk does. Assumes nothing.
use Prim.Native.Nat.{ℕ, ◌+◌, ◌-◌, ◌*◌, ◌/◌, ◌%◌, ◌≤◌, ◌<◌}
use native.Mathlib.Omega.{arith}
use mathlib.Core.Path.{◌≡◌, refl, sym, ap, ◌∙◌}
use mathlib.Core.List.{List}
use lib.ListN.{length, take, drop, length-drop}
use borrow.Author.Tests.{le-leb, eq-eqb, le-ltb}
use Rattle.std.specs.Prelude.{Ok}
use Rattle.arithmetic.specs.Binary32.{when◌then◌else◌}
use Rattle.admission.specs.Faults.{fine}
use Rattle.answer_logs.specs.Logs.{Entry, whole}
use Rattle.log_walks.specs.Figures.{sizes, fallbacks, fallbacks_among}
use Rattle.log_walks.specs.Parts.{records_of}
use Rattle.log_walks.specs.Walks.{more, walked, reach}
use Rattle.index_building.specs.Indexes.{greatest, entry_of, head, index_of}
use Rattle.fallback_index.specs.Questions.{offset_in, before_in, named_log, named_count, head_fault, range_fault, places_fault, before, question_of, head_in, entry_in, stretch_in, question_in}
use Rattle.log_walks.proofs.SplitLaws.{Splits, splits, all-bytes, few, splits-behind, walked_whole, fallbacks-on, sizes-within, fallbacks-few}
use Rattle.log_walks.proofs.WalkLaws.{walked-alike, stretch-walked}
use Rattle.fallback_index.proofs.IndexLaws.{offset_read, before-read, log-read, count-read, head-fine, head-there, entry-there}
use Rattle.index_building.proofs.LengthLaws.{index-length}

-- ---- what a question rests on

-- the log from the last entry at or before a record on
abbrev pub from : List ℕ → List ℕ → ℕ → List ℕ
from log index a = drop (offset_in (entry_in index a)) log

-- how far the walk from there reaches
abbrev pub walked_bytes : List ℕ → List ℕ → ℕ → ℕ
walked_bytes log index a = reach (a % 64) (from log index a)

-- "the two lengths, the index's fields before the entries, the last entries at or before a and b and the .. records
-- from there to a and to b"
pub record SameRests (log index log' index' : List ℕ) (a b : ℕ) : Type 0 where
  pub logs : length log ≡ length log'
  pub indexes : length index ≡ length index'
  pub heads : take 13 index ≡ take 13 index'
  pub entry-a : entry_in index a ≡ entry_in index' a
  pub entry-b : entry_in index b ≡ entry_in index' b
  pub walk-a : take (walked_bytes log index a) (from log index a) ≡ take (walked_bytes log index a) (from log' index a)
  pub walk-b : take (walked_bytes log index b) (from log index b) ≡ take (walked_bytes log index b) (from log' index b)

-- the bytes handed over are enough for the walk
pub before-in : (log entry : List ℕ) (a : ℕ) → before (a % 64) entry (stretch_in log entry a)
    ≡ more (before_in entry) (walked (a % 64) (drop (offset_in entry) log))
unfolding before stretch_in
before-in log entry a = ap (more (before_in entry)) (stretch-walked (a % 64) (drop (offset_in entry) log))

walk-rests : (log log' : List ℕ) (offset n : ℕ) → length log ≡ length log' →
    take (reach n (drop offset log)) (drop offset log) ≡ take (reach n (drop offset log)) (drop offset log') →
    walked n (drop offset log) ≡ walked n (drop offset log')
walk-rests log log' offset n l w =
    let k = reach n (drop offset log) in
    walked-alike n k (drop offset log) (drop offset log') (record {
      bytes = w;
      ends = λ h. omega (arith, length-drop offset log, length-drop offset log');
    }) (omega arith)

-- "no other byte changes it"
pub rests : (log index log' index' : List ℕ) (a b : ℕ) → SameRests log index log' index' a b → question_in log index a b
    ≡ question_in log' index' a b
unfolding question_in question_of head_in
rests log index log' index' a b same =
    rw (
      before-in log (entry_in index a) a,
      before-in log (entry_in index b) b,
      before-in log' (entry_in index' a) a,
      before-in log' (entry_in index' b) b,
      walk-rests log log' (offset_in (entry_in index a)) (a % 64) same.logs same.walk-a,
      walk-rests log log' (offset_in (entry_in index b)) (b % 64) same.logs same.walk-b,
      same.logs,
      same.indexes,
      same.heads,
      same.entry-a,
      same.entry-b,
    )

-- ---- an index built from this log

-- the index of a log with these records
abbrev pub built_from : List ℕ → List Entry → List ℕ
built_from log rs = index_of (length log) rs

module _ (log : List ℕ) (rs : List Entry) (t : Splits log rs) (fits : length log ≤ greatest) where
  pub offset-fits : (n : ℕ) → sizes (take n rs) ≤ length log
  offset-fits n = omega (arith, sizes-within n rs, all-bytes t)

  pub fallbacks-fit : (n : ℕ) → fallbacks (take n rs) ≤ greatest
  fallbacks-fit n = omega (arith, fallbacks-few (take n rs), offset-fits n)

  pub count_fits : length rs ≤ greatest
  count_fits = omega (arith, few rs, all-bytes t)

  module _ (a : ℕ) (h : a ≤ length rs) where
    offset-there : offset_in (entry_in (built_from log rs) a) ≡ sizes (take (64 * (a / 64)) rs)
    unfolding entry_of
    offset-there = ap offset_in (entry-there rs (length log) a h) ∙ offset_read _ _ (omega (arith, offset-fits (64 * (a / 64))))

    before-there : before_in (entry_in (built_from log rs) a) ≡ fallbacks (take (64 * (a / 64)) rs)
    unfolding entry_of
    before-there = ap before_in (entry-there rs (length log) a h) ∙ before-read _ _ (fallbacks-fit (64 * (a / 64)))

    -- entry and walk together give the fallbacks before a
    pub found_before : before (a % 64) (entry_in (built_from log rs) a) (stretch_in log (entry_in (built_from log rs) a) a)
        ≡ Ok (fallbacks (take a rs))
    found_before =
        let q = 64 * (a / 64) in
        let n = a % 64 in
        let whole : q + n ≡ a = omega arith in
        let left : n ≤ length (drop q rs) = rw length-drop (omega arith) in
        let sum : fallbacks (take q rs) + fallbacks (take n (drop q rs)) ≡ fallbacks (take a rs) =
        sym (fallbacks-on q n rs) ∙ ap (λ (k : ℕ). fallbacks (take k rs)) whole in
        before-in log (entry_in (built_from log rs) a) a
        ∙ rw (before-there, offset-there, walked_whole n (splits-behind q t (omega arith)) left, sum)

  head-is-fine : head_fault (length (built_from log rs)) (head_in (built_from log rs)) ≡ fine
  head-is-fine = rw (index-length rs (length log), head-there rs (length log)) (head-fine (length log) (length rs) count_fits)

  module _ (a b : ℕ) (ordered : a ≤ b) (h : b ≤ length rs) where
    places-fine : places_fault (length log) (named_log (head_in (built_from log rs)))
        (named_count (head_in (built_from log rs))) (offset_in (entry_in (built_from log rs) a))
        (offset_in (entry_in (built_from log rs) b)) a b ≡ fine
    unfolding places_fault range_fault
    places-fine =
        let first = head (length log) (length rs) in
        rw (
          head-there rs (length log),
          log-read (length log) (length rs) fits,
          eq-eqb (length log) (length log) refl,
          le-leb a b ordered,
          count-read (length log) (length rs) count_fits,
          le-leb b (length rs) h,
          offset-there a (omega arith),
          le-leb (sizes (take (64 * (a / 64)) rs)) (length log) (offset-fits (64 * (a / 64))),
          offset-there b h,
          le-leb (sizes (take (64 * (b / 64)) rs)) (length log) (offset-fits (64 * (b / 64))),
        )

    -- the fallbacks before b are those before a and those between
    differ : fallbacks (take b rs) ≡ fallbacks (take a rs) + fallbacks_among a b rs
    unfolding fallbacks_among
    differ = let e : a + (b - a) ≡ b = omega arith in sym (ap (λ (k : ℕ). fallbacks (take k rs)) e) ∙ fallbacks-on a (b - a) rs

    pub answered : question_in log (built_from log rs) a b ≡ Ok (fallbacks_among a b rs)
    unfolding question_in question_of when◌then◌else◌
    answered =
        let x = fallbacks (take a rs) in
        let y = fallbacks (take b rs) in
        let e : y - x ≡ fallbacks_among a b rs = omega (arith, differ) in
        rw (head-is-fine, places-fine, found_before a (omega arith), found_before b h, le-ltb y x (omega (arith, differ)), e)

-- "With an index built from this log, a question's answer equals the full walk's."
pub built-answers : (log : List ℕ) (rs : List Entry) → records_of log ≡ whole rs → length log ≤ greatest →
    (a b : ℕ) → a ≤ b → b ≤ length rs → question_in log (index_of (length log) rs) a b ≡ Ok (fallbacks_among a b rs)
built-answers log rs e fits a b ordered h = answered log rs (splits log rs e) fits a b ordered h

-- "the fewer than 128 records from there to a and to b"
pub few-walked : (a b : ℕ) → a % 64 + b % 64 < 128
few-walked a b = omega arith
