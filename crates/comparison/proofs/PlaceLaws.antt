-- The comparison goes on place by place, and stops where a side has no record. Assumes nothing.
use Rattle.std.specs.Prelude.{Option, Some, None}
use Prim.Native.Nat.{ℕ, zero, suc, ◌≤◌, ◌<◌}
use native.Mathlib.Omega.{arith}
use mathlib.Core.Path.{◌≡◌, refl, ap, ◌∙◌}
use mathlib.Core.Logic.{◌⊎◌, ⊎_elim}
use mathlib.Core.List.{List}
use lib.ListN.{length, drop, length-drop}
use Rattle.answer_logs.specs.Logs as log
use Rattle.answer_logs.specs.Logs.{Entry, outcome, refusal, found_in, logged_as, logged_at}
use Rattle.answer_logs.specs.Parts.{found_whole, whole_at}
use Rattle.answer_logs.proofs.RecordLaws.{Stands, an-outcome, a-refusal, stands}
use Rattle.answer_logs.proofs.PartLaws.{whole-stands}
use Rattle.comparison.specs.Places.{Turn}
use Rattle.comparison.specs.Places as turn
use Rattle.comparison.specs.Verdicts.{Compared, agree, differs, unreadable}
use Rattle.comparison.specs.declared.Difference.{Difference}
use Rattle.comparison.specs.Agreeing.{matched_entries}
use Rattle.comparison.specs.Turns.{turn_by}
use Rattle.comparison.specs.Comparing.{turn_of, next_place, Stop, behind, passed, walked, first_stop, told_in, compared_from}

-- ---- how many bytes a record has

pub data Sized (s : List ℕ) : log.Found → Type 0 where
  no_bytes : Sized s log.ended
  bad-bytes : {n : ℕ} → Sized s (log.bad n)
  sized : {e : Entry} {k : ℕ} → 1 ≤ k → k ≤ length s → Sized s (log.entry e k)

stands-sized : (s : List ℕ) (f : log.Found) → Stands s 0 (logged_as 0 f) → Sized s f
stands-sized s log.ended h = no_bytes
stands-sized s (log.bad n) h = bad-bytes
stands-sized s (log.entry (outcome a) k) (an-outcome p q e) = sized {k = k} (omega arith) (omega arith)
stands-sized s (log.entry (refusal n) k) (a-refusal p q e) = sized {k = k} (omega arith) (omega arith)

pub found-sized : (s : List ℕ) → Sized s (found_in s)
unfolding logged_at
found-sized s = stands-sized s (found_in s) (stands s 0)

pub whole-sized : (s : List ℕ) → Sized s (found_whole s)
unfolding whole_at
whole-sized s = stands-sized s (found_whole s) (whole-stands s 0)

-- ---- a place that agrees lies within both logs

pub data Moves (o t : List ℕ) : Turn → Type 0 where
  moves : {j k : ℕ} → 1 ≤ j → j ≤ length o → 1 ≤ k → k ≤ length t → Moves o t (turn.Onward j k)
  not-readable : {n : ℕ} → Moves o t (turn.Unreadable n)
  not-the-same : {d : Difference} → Moves o t (turn.Different d)
  no_more : Moves o t turn.BothEnded
  one_more : {d : Difference} → Moves o t (turn.OneEnded d)

match-moves : (o t : List ℕ) (j k : ℕ) (m : Option Difference) → 1 ≤ j → j ≤ length o → 1 ≤ k → k ≤ length t → Moves o t (turn_by m j k)
unfolding turn_by
match-moves o t j k None a b c d = moves a b c d
match-moves o t j k (Some e) a b c d = not-the-same

pub turn-moves : (o t : List ℕ) (f g : log.Found) → Sized o f → Sized t g → Moves o t (turn_of f g)
turn-moves o t log.ended (log.bad n) p q = not-readable
turn-moves o t (log.bad m) (log.bad n) p q = not-readable
turn-moves o t (log.entry a j) (log.bad n) p q = not-readable
turn-moves o t log.ended log.ended p q = no_more
turn-moves o t (log.bad m) log.ended p q = one_more
turn-moves o t (log.entry a j) log.ended p q = one_more
turn-moves o t log.ended (log.entry b k) p q = one_more
turn-moves o t (log.bad m) (log.entry b k) p q = not-the-same
turn-moves o t (log.entry a j) (log.entry b k) (sized h i) (sized m n) = match-moves o t j k (matched_entries a b) h i m n

-- ---- enough is enough

same-passed : (place : ℕ) (o t : List ℕ) (f g : ℕ → ℕ → Stop) → ((j k : ℕ) → 1 ≤ k → k ≤ length t → f j k ≡ g j k) →
    (w : Turn) → Moves o t w → passed place f w ≡ passed place g w
same-passed place o t f g same (turn.Onward j k) (moves h i m n) = ap (behind j k) (same j k m n)
same-passed place o t f g same (turn.Unreadable n) p = refl
same-passed place o t f g same (turn.Different d) p = refl
same-passed place o t f g same turn.BothEnded p = refl
same-passed place o t f g same (turn.OneEnded d) p = refl

module _ (read : List ℕ → log.Found) (within : (s : List ℕ) → Sized s (read s)) where
  pub moves-on : (o t : List ℕ) → Moves o t (turn_of (read o) (read t))
  moves-on o t = turn-moves o t (read o) (read t) (within o) (within t)

  enough : (m n place : ℕ) (o t : List ℕ) → length t < m → length t < n → walked read m place o t ≡ walked read n place o t
  unfolding walked
  enough zero n place o t h k = absurd (omega arith)
  enough (suc m) zero place o t h k = absurd (omega arith)
  enough (suc m) (suc n) place o t h k =
      same-passed place o t _ _ (λ i l one fits. enough m n (next_place place) (drop i o) (drop l t)
      (omega (arith, length-drop l t)) (omega (arith, length-drop l t)))
      (turn_of (read o) (read t)) (moves-on o t)

  -- a place, then those behind it
  pub place-by-place : (place : ℕ) (o t : List ℕ) → first_stop read place o t
      ≡ passed place (λ j k. first_stop read (next_place place) (drop j o) (drop k t)) (turn_of (read o) (read t))
  unfolding first_stop walked
  place-by-place place o t =
      same-passed place o t _ _ (λ j k one fits. enough (length t) (suc (length (drop k t))) (next_place place)
      (drop j o) (drop k t) (omega (arith, length-drop k t)) (omega arith))
      (turn_of (read o) (read t)) (moves-on o t)

-- ---- what is told

abbrev pub continued : ℕ → (ℕ → ℕ → Compared) → Turn → Compared
continued place next (turn.Onward j k) = next j k
continued place next (turn.Unreadable n) = unreadable n place
continued place next (turn.Different d) = differs place d
continued place next turn.BothEnded = agree
continued place next (turn.OneEnded d) = differs place d

told-passed : (place : ℕ) (f : ℕ → ℕ → Stop) (w : Turn) → told_in (passed place f w).place (passed place f w).turn
    ≡ continued place (λ j k. told_in (f j k).place (f j k).turn) w
unfolding told_in
told-passed place f (turn.Onward j k) = refl
told-passed place f (turn.Unreadable n) = refl
told-passed place f (turn.Different d) = refl
told-passed place f turn.BothEnded = refl
told-passed place f (turn.OneEnded d) = refl

-- The comparison of two logs is told at its first place, or behind it.
pub compared-on : (place : ℕ) (o t : List ℕ) → compared_from place o t
    ≡ continued place (λ j k. compared_from (next_place place) (drop j o) (drop k t)) (turn_of (found_in o) (found_in t))
unfolding compared_from
compared-on place o t =
    ap (λ (s : Stop). told_in s.place s.turn) (place-by-place found_in found-sized place o t)
    ∙ told-passed place (λ j k. first_stop found_in (next_place place) (drop j o) (drop k t)) (turn_of (found_in o) (found_in t))

-- ---- where a side has no record

pub data Ends : log.Found → Type 0 where
  at-end : Ends log.ended
  at-bad : {n : ℕ} → Ends (log.bad n)

module _ (place : ℕ) (next : ℕ → ℕ → Compared) where
  ours-ends : (f g : log.Found) → Ends f → continued place next (turn_of f g) ≡ told_in place (turn_of f g)
  unfolding told_in
  ours-ends log.ended (log.bad n) p = refl
  ours-ends (log.bad m) (log.bad n) p = refl
  ours-ends log.ended log.ended p = refl
  ours-ends (log.bad m) log.ended p = refl
  ours-ends log.ended (log.entry b k) p = refl
  ours-ends (log.bad m) (log.entry b k) p = refl
  ours-ends (log.entry _ _) g p = elim p [ ]

  theirs-ends : (f g : log.Found) → Ends g → continued place next (turn_of f g) ≡ told_in place (turn_of f g)
  unfolding told_in
  theirs-ends log.ended (log.bad n) p = refl
  theirs-ends (log.bad m) (log.bad n) p = refl
  theirs-ends (log.entry a j) (log.bad n) p = refl
  theirs-ends log.ended log.ended p = refl
  theirs-ends (log.bad m) log.ended p = refl
  theirs-ends (log.entry a j) log.ended p = refl
  theirs-ends log.ended (log.entry _ _) p = elim p [ ]
  theirs-ends (log.bad m) (log.entry _ _) p = elim p [ ]
  theirs-ends (log.entry a j) (log.entry _ _) p = elim p [ ]

-- Where a side has no record at a place, that place is told.
pub last-place : (place : ℕ) (o t : List ℕ) → Ends (found_in o) ⊎ Ends (found_in t) → compared_from place o t
    ≡ told_in place (turn_of (found_in o) (found_in t))
last-place place o t h =
    compared-on place o t ∙ ⊎_elim (ours-ends place _ (found_in o) (found_in t)) (theirs-ends place _ (found_in o) (found_in t)) h
