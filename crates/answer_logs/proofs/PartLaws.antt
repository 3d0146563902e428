-- The walk over a part of a log, record by record, in the code's words. Assumes nothing.
use Prim.Native.Nat.{ℕ, suc, ◌+◌, ◌-◌, ◌≤◌, ◌<◌}
use native.Mathlib.Omega.{arith}
use mathlib.Core.Path.{◌≡◌, refl, ap}
use mathlib.Core.Bool.{true, false}
use mathlib.Core.List.{List, [], ◌∷◌}
use lib.Dec.{ltb}
use lib.ListN.{length, drop, length-drop}
use lib.Seq.{drop-drop}
use borrow.Author.Tests.{lt-ltb, le-ltb, le-leb, lt-leb}
use Rattle.arithmetic.proofs.Choice.{if-all}
use Rattle.words.specs.Words.{pair_of}
use Rattle.answer_records.specs.Answers.{longest_answer}
use Rattle.answer_logs.specs.Logs as logged
use Rattle.answer_logs.specs.Logs.{Logged, Found, ended, bad, entry, logged_as, logged_at}
use Rattle.answer_logs.specs.Parts.{waits, found_whole, whole_at, Wholes, reached, stopped, ahead_whole, no_more_whole, onward_whole, wholes_from}
use Rattle.answer_logs.proofs.LogLaws.{size-at}
use Rattle.answer_logs.proofs.RecordLaws.{Stands, no_record, stands}

-- ---- whether a part waits

module _ (s : List ℕ) (at : ℕ) where
  pub waits-short : length s - at < 2 → true ≡ waits (drop at s)
  unfolding waits
  waits-short h = rw (length-drop at s, lt-ltb (length s - at) 2 h)

  module _ (h : 2 ≤ length s - at) {n : ℕ} (e : n ≡ pair_of s at) where
    pub waits-overlong : longest_answer < 2 + n → false ≡ waits (drop at s)
    unfolding waits
    waits-overlong k = rw (length-drop at s, size-at s at, ← e, le-ltb (length s - at) 2 h, lt-leb (2 + n) longest_answer k)

    pub waits-by-size : 2 + n ≤ longest_answer → ltb (length s - at) (2 + n) ≡ waits (drop at s)
    unfolding waits
    waits-by-size k = rw (length-drop at s, size-at s at, ← e, le-ltb (length s - at) 2 h, le-leb (2 + n) longest_answer k)

-- what is found in a part is what stands in the log, or nothing yet
pub whole-stands : (s : List ℕ) (at : ℕ) → Stands s at (whole_at s at)
unfolding whole_at found_whole logged_at
whole-stands s at = if-all (λ (f : Found). Stands s at (logged_as at f)) (waits (drop at s)) no_record (stands s at)

-- ---- the way on, by the record at a byte

-- where more says the records from a byte on
abbrev pub onward_at : ℕ → ℕ → (ℕ → Wholes) → Logged → Wholes
onward_at at place more logged.nothing = reached [] 0
onward_at at place more (logged.faulty n) = stopped n place
onward_at at place more (logged.placed e behind) = ahead_whole e (behind - at) (more behind)

module _ (place at : ℕ) (here more : ℕ → Wholes) (same : (size : ℕ) → here size ≡ more (at + size)) where
  onward-at : (f : Found) → onward_whole place here f ≡ onward_at at place more (logged_as at f)
  onward-at ended = refl
  onward-at (bad n) = refl
  onward-at (entry e size) = let back : at + size - at ≡ size = omega arith in rw (back, same size)

module _ (place : ℕ) (s : List ℕ) (at : ℕ) where
  pub next-whole : (left : ℕ) → wholes_from (suc left) place (drop at s)
      ≡ onward_at at place (λ behind. wholes_from left (place + 1) (drop behind s)) (whole_at s at)
  unfolding wholes_from whole_at
  next-whole left =
      onward-at place at _ _ (λ size. ap (wholes_from left (place + 1)) (drop-drop size at s)) (found_whole (drop at s))

  more-begins : (rest : List ℕ) → 0 < length rest → no_more_whole place rest ≡ stopped 4 place
  more-begins [] h = absurd (omega arith)
  more-begins (x ∷ rest) h = refl

  none-begins : (rest : List ℕ) → length rest ≡ 0 → no_more_whole place rest ≡ reached [] 0
  none-begins [] h = refl
  none-begins (x ∷ rest) h = absurd (omega arith)

  -- where no more may begin
  pub one-too-many : at < length s → wholes_from 0 place (drop at s) ≡ stopped 4 place
  unfolding wholes_from
  one-too-many h = more-begins (drop at s) (omega (arith, length-drop at s))

  pub just_enough : length s ≤ at → wholes_from 0 place (drop at s) ≡ reached [] 0
  unfolding wholes_from
  just_enough h = none-begins (drop at s) (omega (arith, length-drop at s))
