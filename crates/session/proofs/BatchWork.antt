-- What the code of a batch rests on: where the lines come to stand, that a batch without a fault fits, and that the
-- solve over all lines is the session's. Assumes nothing.
use Rattle.std.proofs.Common.{◌≡◌, ℕ, ◌+◌, ◌/◌, ◌≤◌, true, leb, List, ◌++◌, map, length, take, drop, sym, refl, ap, ◌∙◌, arith, length-append, length-take-le, drop-drop, take_at, drop_at, le-leb, leb-true}
use lib.ListN.{length-map}
use lib.Seq.{sets, sets-eq}
use lib.Ieee.{Float}
use Rattle.lines.specs.Lines.{most_lines, lines_of}
use Rattle.linear_programming.specs.Whole.{Outcome}
use Rattle.admission.specs.Faults.{fine, must}
use Rattle.linear_programming.specs.Admit.{fours}
use Rattle.linear_programming.specs.Read.{phase_of, failed_of}
use Rattle.linear_programming.specs.Resume.{resumed_call}
use Rattle.admission.proofs.FaultLaws.{⊳-fine, must-fine}
use Rattle.lines.proofs.Rows.{lines_long}
use Rattle.session.specs.declared.Session.{Session}
use Rattle.session.specs.Batches.{fitting, origins_fault, batch_fault, stored_in, worked}

-- the length of an array of structs in a struct's field stands under a map in what is known of the parameter
pub unmap : {A B : Type 0} (f : A → B) (l : List A) (n : ℕ) → length (map f l) ≡ n → length l ≡ n
unmap f l n e = sym (length-map l f) ∙ e

-- what is stored behind the first n places stands behind them, and behind it what stood there
module _ {A : Type 0} (l m : List A) (n k : ℕ) (long : length m ≡ k) (fits : n + k ≤ length l) where
  whole : length (take n l ++ m) ≡ n + k
  whole = rw (length-append, length-take-le n l (omega arith)) (ap (λ (j : ℕ). n + j) long)

  parts : sets l n m ≡ take n l ++ m ++ drop (n + k) l
  parts = rw (← long) (sets-eq m l n (rw long fits))

  pub take-stored : take (n + k) (sets l n m) ≡ take n l ++ m
  take-stored = rw parts (take_at (take n l ++ m) (drop (n + k) l) (n + k) whole)

  pub drop-stored : (b : List A) → drop n l ≡ drop n b → drop (n + k) (sets l n m) ≡ drop (n + k) b
  drop-stored b e = rw parts (drop_at (take n l ++ m) (drop (n + k) l) (n + k) whole ∙ sym (drop-drop k n l)
      ∙ ap (drop k) e ∙ drop-drop k n b)

-- a batch without a fault fits, and so do its origins
pub record Fitting (n : ℕ) (xs : List Float) (os : List ℕ) : Type 0 where
  pub whole-lines : fours xs ≡ fine
  pub theirs : origins_fault (length (lines_of xs)) os ≡ fine
  pub room : n + length (lines_of xs) ≤ most_lines

pub batch-fits : (n : ℕ) (xs : List Float) (os : List ℕ) → batch_fault n xs os ≡ fine → Fitting n xs os
unfolding batch_fault
batch-fits n xs os h =
    let a = ⊳-fine (must (leb n most_lines) 4) h in
    let b = ⊳-fine (fours xs) a.1 in
    let c = ⊳-fine (origins_fault (length (lines_of xs)) os) b.1 in
    let d = ⊳-fine (must (leb (n + length (lines_of xs)) most_lines) 4) c.1 in
    record {
      whole-lines = b.0;
      theirs = c.0;
      room = leb-true _ _ (must-fine (leb (n + length (lines_of xs)) most_lines) 4 d.0);
    }

-- as the code counts lines
pub batch-counts : (n : ℕ) (xs : List Float) (os : List ℕ) → fine ≡ batch_fault n xs os → (n + length xs / 4 ≤ most_lines)
    × (fitting (length os) (length xs / 4) ≡ true)
batch-counts n xs os h =
    let f = batch-fits n xs os (sym h) in
    rw (← lines_long xs) (f.room, must-fine (fitting (length os) (length (lines_of xs))) 2 f.theirs)

module _ (s : Session) (xs : List Float) (os : List ℕ) (size : length s.lines
    ≡ most_lines) (fits : s.count + length xs / 4 ≤ most_lines) where
  -- all lines, from the first new one on
  all_lines : resumed_call s.rigid s.wish s.limit (sets s.lines s.count (lines_of xs))
      (s.count + length (lines_of xs)) s.count (phase_of s.phase) (failed_of s.failed) ≡ worked s (lines_of xs)
  unfolding resumed_call worked
  all_lines =
      let n : length (lines_of xs) ≡ length xs / 4 = lines_long xs in
      rw (
        le-leb (s.count + length (lines_of xs)) most_lines (omega arith),
        take-stored s.lines (lines_of xs) s.count (length (lines_of xs)) refl (omega arith),
      )

  -- what the solve over all lines tells is what the new ones tell
  pub worked-right : {t : Session} {o : Outcome} → t ≡ stored_in s (lines_of xs) os →
      o ≡ resumed_call s.rigid s.wish s.limit t.lines t.count s.count (phase_of s.phase) (failed_of s.failed) →
      worked s (lines_of xs) ≡ o
  worked-right e h = sym (h ∙ rw e all_lines)
