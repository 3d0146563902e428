-- The code's turns: each place at its bytes, and what the comparison makes of it. Assumes nothing.
use Rattle.std.specs.Prelude.{Option, Some, None}
use Prim.Native.Nat.{ℕ, ◌+◌, ◌≤◌, ◌<◌}
use native.Mathlib.Omega.{arith}
use native.Mathlib.Nat.{add-zero, zero-add, add_assoc}
use mathlib.Core.Path.{◌≡◌, refl, sym, ap, ◌∙◌}
use mathlib.Core.Logic.{⊎_elim, inl, inr}
use mathlib.Core.Bool.{Bool, true, false, false≢true}
use mathlib.Core.List.{List, [], ◌++◌, append-nil}
use lib.ListN.{length, drop, length-drop}
use lib.Seq.{drop-drop}
use Rattle.answer_logs.specs.Logs as log
use Rattle.answer_logs.specs.Logs.{outcome, refusal, found_in, logged_as, logged_at}
use Rattle.answer_logs.specs.Parts.{found_whole, whole_at}
use Rattle.comparison.specs.declared.Difference.{Difference}
use Rattle.comparison.specs.declared.Turn.{Turn as TurnCode}
use Rattle.comparison.specs.declared.Turn.TheVariants as code
use Rattle.comparison.specs.Places.{Turn, said_turn}
use Rattle.comparison.specs.Places as turn
use Rattle.comparison.specs.Verdicts.{Compared, Progress}
use Rattle.comparison.specs.Agreeing.{matched_outcomes, matched_refusals}
use Rattle.comparison.specs.Turns.{turn_by, against_end, against_outcome, against_refusal, turn_in, part_turn, whole_turn}
use Rattle.comparison.specs.Comparing.{turn_of, next_place, Stop, behind, passed, first_stop, told_in, compared_from, stopped_at, progress_of, advanced}
use Rattle.comparison.proofs.PlaceLaws.{Moves, moves, moves-on, whole-sized, place-by-place, last-place}
use Rattle.comparison.proofs.PartLaws.{resumed, if_going, advance-cut, going-waits, waits-ends}

-- ---- a turn at a byte of each

abbrev code_at : ℕ → ℕ → Turn → Turn
code_at at by (turn.Onward j k) = turn.Onward (at + j) (by + k)
code_at at by (turn.Unreadable n) = turn.Unreadable n
code_at at by (turn.Different d) = turn.Different d
code_at at by turn.BothEnded = turn.BothEnded
code_at at by (turn.OneEnded d) = turn.OneEnded d

match-at : (at by j k : ℕ) (m : Option Difference) → turn_by m (at + j) (by + k) ≡ code_at at by (turn_by m j k)
unfolding turn_by
match-at at by j k None = refl
match-at at by j k (Some d) = refl

turn_at : (at by : ℕ) (f g : log.Found) → turn_in (logged_as at f) (logged_as by g) ≡ code_at at by (turn_of f g)
unfolding turn_in against_end against_outcome against_refusal turn_by
turn_at at by log.ended log.ended = refl
turn_at at by (log.bad m) log.ended = refl
turn_at at by (log.entry (outcome a) j) log.ended = refl
turn_at at by (log.entry (refusal m) j) log.ended = refl
turn_at at by log.ended (log.bad n) = refl
turn_at at by (log.bad m) (log.bad n) = refl
turn_at at by (log.entry (outcome a) j) (log.bad n) = refl
turn_at at by (log.entry (refusal m) j) (log.bad n) = refl
turn_at at by log.ended (log.entry (outcome b) k) = refl
turn_at at by (log.bad m) (log.entry (outcome b) k) = refl
turn_at at by (log.entry (outcome a) j) (log.entry (outcome b) k) = match-at at by j k (matched_outcomes a b)
turn_at at by (log.entry (refusal m) j) (log.entry (outcome b) k) = refl
turn_at at by log.ended (log.entry (refusal n) k) = refl
turn_at at by (log.bad m) (log.entry (refusal n) k) = refl
turn_at at by (log.entry (outcome a) j) (log.entry (refusal n) k) = refl
turn_at at by (log.entry (refusal m) j) (log.entry (refusal n) k) = match-at at by j k (matched_refusals m n)

-- ---- the walk of `advance`

abbrev pub is_onward : Turn → Bool
is_onward (turn.Onward j k) = true
is_onward (turn.Unreadable n) = false
is_onward (turn.Different d) = false
is_onward turn.BothEnded = false
is_onward (turn.OneEnded d) = false

pub stays : (w : TurnCode) → ((j k : ℕ) → w ≡ code.Onward j k → ⊥) → is_onward (said_turn w) ≡ false
stays (code.Onward j k) h = absurd (h j k refl)
stays (code.Unreadable r) h = refl
stays (code.Different d) h = refl
stays code.BothEnded h = refl
stays (code.OneEnded d) h = refl

data Reaching (o t : List ℕ) (at by : ℕ) : Turn → Type 0 where
  reaching : {j k : ℕ} → at < j → j ≤ length o → by < k → k ≤ length t → Reaching o t at by (turn.Onward j k)
  staying : {w : Turn} → is_onward w ≡ false → Reaching o t at by w

the-reach : {o t : List ℕ} {at by j k : ℕ} → Reaching o t at by (turn.Onward j k) → (by < k) × (k ≤ length t)
the-reach (reaching a b c d) = (c, d)
the-reach (staying e) = absurd (false≢true (sym e))

module _ (o t : List ℕ) where
  -- the progress from a byte of each on
  abbrev pub advanced_at : ℕ → ℕ → ℕ → Progress
  advanced_at at by place = progress_of (behind at by (first_stop found_whole place (drop at o) (drop by t)))

  pub from_start : (place : ℕ) → advanced place o t ≡ advanced_at 0 0 place
  unfolding advanced
  from_start place = let s = first_stop found_whole place o t in rw (zero-add s.ours, zero-add s.theirs)

  module _ (at by place : ℕ) where
    abbrev here-turn : Turn
    here-turn = turn_of (found_whole (drop at o)) (found_whole (drop by t))

    part-turn : part_turn o t at by ≡ code_at at by here-turn
    unfolding part_turn whole_at
    part-turn = turn_at at by (found_whole (drop at o)) (found_whole (drop by t))

    reach_of : (w : Turn) → Moves (drop at o) (drop by t) w → Reaching o t at by (code_at at by w)
    reach_of (turn.Onward j k) (moves a b c d) =
        reaching {j = at + j} {k = by + k} (omega arith) (omega (arith, length-drop at o)) (omega arith)
        (omega (arith, length-drop by t))
    reach_of (turn.Unreadable n) m = staying refl
    reach_of (turn.Different d) m = staying refl
    reach_of turn.BothEnded m = staying refl
    reach_of (turn.OneEnded d) m = staying refl

    pub part-reach : {j k : ℕ} → turn.Onward j k ≡ part_turn o t at by → (by < k) × (k ≤ length t)
    part-reach p =
        the-reach (rw (← (p ∙ part-turn)) at (reach_of here-turn (moves-on found_whole whole-sized (drop at o)
        (drop by t))))

    abbrev progress_at : (ℕ → ℕ → Progress) → Turn → Progress
    progress_at next (turn.Onward j k) = next j k
    progress_at next (turn.Unreadable n) = stopped_at at by place (turn.Unreadable n)
    progress_at next (turn.Different d) = stopped_at at by place (turn.Different d)
    progress_at next turn.BothEnded = stopped_at at by place turn.BothEnded
    progress_at next (turn.OneEnded d) = stopped_at at by place (turn.OneEnded d)

    abbrev onward : ℕ → ℕ → Progress
    onward j k = advanced_at j k (next_place place)

    progress-at : (w : Turn) →
        progress_of (behind at by (passed place (λ j k. first_stop found_whole (next_place place) (drop j (drop at o))
        (drop k (drop by t))) w)) ≡ progress_at onward (code_at at by w)
    progress-at (turn.Onward j k) =
        let s = first_stop found_whole (next_place place) (drop (at + j) o) (drop (by + k) t) in
        rw (drop-drop j at o, drop-drop k by t, ← add_assoc at j s.ours, ← add_assoc by k s.theirs)
    progress-at (turn.Unreadable n) = rw (add-zero at, add-zero by)
    progress-at (turn.Different d) = rw (add-zero at, add-zero by)
    progress-at turn.BothEnded = rw (add-zero at, add-zero by)
    progress-at (turn.OneEnded d) = rw (add-zero at, add-zero by)

    part-arm : {r : Turn} → r ≡ part_turn o t at by → advanced_at at by place ≡ progress_at onward r
    part-arm p =
        ap (λ (s : Stop). progress_of (behind at by s)) (place-by-place found_whole whole-sized place (drop at o) (drop by t))
        ∙ progress-at here-turn ∙ ap (progress_at onward) (sym part-turn ∙ sym p)

    -- a place that agrees is passed ..
    pub goes_on : {j k : ℕ} → turn.Onward j k ≡ part_turn o t at by → advanced_at at by place ≡ advanced_at j k (next_place place)
    goes_on p = part-arm p

    stops_as : (w : Turn) → is_onward w ≡ false → progress_at onward w ≡ stopped_at at by place w
    stops_as (turn.Onward j k) h = absurd (false≢true (sym h))
    stops_as (turn.Unreadable n) h = refl
    stops_as (turn.Different d) h = refl
    stops_as turn.BothEnded h = refl
    stops_as (turn.OneEnded d) h = refl

    -- .. and any other stops the walk
    pub stops : {r : Turn} → r ≡ part_turn o t at by → is_onward r ≡ false → advanced_at at by place ≡ stopped_at at by place r
    stops {r} p h = part-arm p ∙ stops_as r h

-- ---- the end of both logs

told_at : (place at by : ℕ) (w : Turn) → told_in place (code_at at by w) ≡ told_in place w
unfolding told_in
told_at place at by (turn.Onward j k) = refl
told_at place at by (turn.Unreadable n) = refl
told_at place at by (turn.Different d) = refl
told_at place at by turn.BothEnded = refl
told_at place at by (turn.OneEnded d) = refl

module _ (o t : List ℕ) (place : ℕ) where
  ended-cut : compared_from place o t ≡ resumed [] [] o t (advanced place o t)
  ended-cut =
      ap (λ (l : List ℕ). compared_from place l t) (sym (append-nil o)) ∙ ap (compared_from place _) (sym (append-nil t))
      ∙ advance-cut [] [] place o t

  module _ {p : Progress} (e : p ≡ advanced place o t) where
    pub ended-told : {verdict : Compared} → p.found ≡ Some verdict → verdict ≡ compared_from place o t
    ended-told h =
        sym (ended-cut ∙ ap (resumed [] [] o t) (sym e) ∙ ap (if_going [] [] _) h)

    pub going-told : p.found ≡ None → told_in p.place (whole_turn o t p.ours p.theirs) ≡ compared_from place o t
    unfolding whole_turn logged_at
    going-told h =
        let a = drop p.ours o in
        let b = drop p.theirs t in
        let waiting = going-waits place o t (ap (λ (x : Progress). x.found) (sym e) ∙ h) in
        ap (told_in p.place) (turn_at p.ours p.theirs (found_in a) (found_in b))
        ∙ told_at p.place p.ours p.theirs (turn_of (found_in a) (found_in b))
        ∙ sym (last-place p.place a b (⊎_elim (λ w. inl (waits-ends a w)) (λ w. inr (waits-ends b w)) (rw (← e) at waiting)))
        ∙ sym (ended-cut ∙ ap (resumed [] [] o t) (sym e) ∙ ap (if_going [] [] _) h
        ∙ ap (λ (l : List ℕ). compared_from p.place l (b ++ [])) (append-nil a)
        ∙ ap (compared_from p.place a) (append-nil b))
