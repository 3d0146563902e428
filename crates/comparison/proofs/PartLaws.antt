-- What a part of each log gives is what the whole logs give, whatever stands behind the parts. Assumes nothing.
use Rattle.std.specs.Prelude.{Option, Some, None}
use Prim.Native.Nat.{ℕ, zero, suc, ◌≤◌, ◌<◌}
use native.Mathlib.Omega.{arith}
use mathlib.Core.Path.{◌≡◌, refl, sym, ap, ◌∙◌}
use mathlib.Core.Logic.{◌⊎◌, inl, inr, ⊎_elim}
use mathlib.Core.Bool.{Bool, true, false, false≢true}
use mathlib.Core.List.{List, [], ◌∷◌, ◌++◌}
use lib.ListN.{length, take, drop, length-drop}
use lib.Seq.{drop-drop, drop-append-le}
use Rattle.arithmetic.proofs.Choice.{if-case}
use Rattle.answer_records.specs.Replies as said
use Rattle.answer_records.specs.Replies.{Said, answer_in}
use Rattle.answer_logs.specs.Logs as log
use Rattle.answer_logs.specs.Logs.{Entry, found_as, size_in, found_in}
use Rattle.answer_logs.specs.Parts.{waits, found_whole}
use Rattle.answer_logs.proofs.LogLaws.{found-cut}
use Rattle.answer_logs.proofs.CutLaws.{found-append, waits-cut}
use Rattle.comparison.specs.Places.{Turn}
use Rattle.comparison.specs.Places as turn
use Rattle.comparison.specs.Verdicts.{Compared, Progress}
use Rattle.comparison.specs.declared.Difference.{Difference}
use Rattle.comparison.specs.declared.Difference.TheVariants as difference
use Rattle.comparison.specs.Agreeing.{matched_entries}
use Rattle.comparison.specs.Turns.{turn_by}
use Rattle.comparison.specs.Comparing.{turn_of, next_place, Stop, behind, passed, walked, first_stop, compared_from, found_by, stopped_at, progress_of, advanced}
use Rattle.comparison.proofs.PlaceLaws.{Moves, moves, moves-on, whole-sized, continued, compared-on, Ends, at-end, at-bad}

-- ---- what is known of the record at the start of a part

-- nothing, where the part waits for more; else what stands there with more behind it
data Known (a b : List ℕ) : log.Found → Type 0 where
  unknown : Known a b log.ended
  known : {f : log.Found} → found_in (a ++ b) ≡ f → Known a b f

whole-known : (a b : List ℕ) → Known a b (found_whole a)
unfolding found_whole
whole-known a b = if-case (Known a b) (waits a) (λ e. unknown) (λ e. known (found-append a e b))

-- a part that waits has no record
pub waits-ends : (s : List ℕ) → waits s ≡ true → Ends (found_in s)
unfolding found_in
waits-ends [] h = at-end
waits-ends (x ∷ s) h = rw (found-cut (x ∷ s) (omega arith) (waits-cut (x ∷ s) h)) at-bad

-- ---- one place of the parts, and of the wholes

module _ (more-ours more-theirs : List ℕ) where
  -- the comparison of the wholes, resumed behind what a part of each gave
  abbrev pub if_going : Compared → Option Compared → Compared
  if_going next None = next
  if_going next (Some verdict) = verdict

  abbrev pub resumed : List ℕ → List ℕ → Progress → Compared
  resumed o t p = if_going (compared_from p.place (drop p.ours o ++ more-ours) (drop p.theirs t ++ more-theirs)) p.found

  -- the turn of the wholes is that of the parts, where neither part has ended
  data Carried (whole : Turn) : Turn → Type 0 where
    undecided : {d : Difference} → Carried whole (turn.OneEnded d)
    undecided-both : Carried whole turn.BothEnded
    decided : {w : Turn} → whole ≡ w → Carried whole w

  carried : (o t : List ℕ) (f g : log.Found) → Known o more-ours f → Known t more-theirs g →
      Carried (turn_of (found_in (o ++ more-ours)) (found_in (t ++ more-theirs))) (turn_of f g)
  carried o t f (log.bad n) p (known e) = decided (ap (turn_of (found_in (o ++ more-ours))) e)
  carried o t log.ended log.ended p q = undecided-both
  carried o t (log.bad m) log.ended p q = undecided
  carried o t (log.entry a j) log.ended p q = undecided
  carried o t log.ended (log.entry b k) p q = undecided
  carried o t (log.bad m) (log.entry b k) (known d) (known e) = decided {w = turn.Different difference.NoneOfOurs} (rw (d, e))
  carried o t (log.entry a j) (log.entry b k) (known d) (known e) = decided {w = turn_by (matched_entries a b) j k} (rw (d, e))

  -- what lies behind a place that is passed
  behind-resumed : (o t : List ℕ) (j k : ℕ) (s : Stop) → resumed (drop j o) (drop k t) (progress_of s)
      ≡ resumed o t (progress_of (behind j k s))
  behind-resumed o t j k s = rw (drop-drop s.ours j o, drop-drop s.theirs k t)

  module _ (place : ℕ) (o t : List ℕ) where
    abbrev rest : ℕ → ℕ → Compared
    rest j k = compared_from (next_place place) (drop j (o ++ more-ours)) (drop k (t ++ more-theirs))

    by_turn : {w : Turn} → turn_of (found_in (o ++ more-ours)) (found_in (t ++ more-theirs)) ≡ w →
        compared_from place (o ++ more-ours) (t ++ more-theirs) ≡ continued place rest w
    by_turn e = compared-on place (o ++ more-ours) (t ++ more-theirs) ∙ ap (continued place rest) e

    one-step : (next : ℕ → ℕ → Stop) →
        ((j k : ℕ) → compared_from (next_place place) (drop j o ++ more-ours) (drop k t ++ more-theirs)
        ≡ resumed (drop j o) (drop k t) (progress_of (next j k))) →
        (w : Turn) → Carried (turn_of (found_in (o ++ more-ours)) (found_in (t ++ more-theirs))) w → Moves o t w →
        compared_from place (o ++ more-ours) (t ++ more-theirs) ≡ resumed o t (progress_of (passed place next w))
    unfolding found_by
    one-step next same (turn.Onward j k) (decided e) (moves a b c d) =
        by_turn e
        ∙ ap (λ (l : List ℕ). compared_from (next_place place) l (drop k (t ++ more-theirs))) (drop-append-le j o more-ours b)
        ∙ ap (λ (l : List ℕ). compared_from (next_place place) (drop j o ++ more-ours) l) (drop-append-le k t more-theirs d)
        ∙ same j k
        ∙ behind-resumed o t j k (next j k)
    one-step next same (turn.Unreadable n) (decided e) m = by_turn e
    one-step next same (turn.Different d) (decided e) m = by_turn e
    one-step next same turn.BothEnded p m = refl
    one-step next same (turn.OneEnded d) p m = refl

  walk-cut : (n place : ℕ) (o t : List ℕ) → compared_from place (o ++ more-ours) (t ++ more-theirs)
      ≡ resumed o t (progress_of (walked found_whole n place o t))
  unfolding walked found_by
  walk-cut zero place o t = refl
  walk-cut (suc n) place o t =
      one-step place o t _ (λ j k. walk-cut n (next_place place) (drop j o) (drop k t)) (turn_of (found_whole o) (found_whole t))
      (carried o t (found_whole o) (found_whole t) (whole-known o more-ours) (whole-known t more-theirs))
      (moves-on found_whole whole-sized o t)

  -- Where advancing ends, that is the verdict whatever follows; where it does not, the comparison goes on behind the
  -- bytes that it used.
  pub advance-cut : (place : ℕ) (o t : List ℕ) → compared_from place (o ++ more-ours) (t ++ more-theirs)
      ≡ resumed o t (advanced place o t)
  unfolding advanced first_stop
  advance-cut place o t = walk-cut (suc (length t)) place o t

-- ---- where more is needed, a side waits

-- nothing was found, and the part waits; or there is something
data Seen (s : List ℕ) : log.Found → Type 0 where
  nothing : waits s ≡ true → Seen s log.ended
  a-fault : {n : ℕ} → Seen s (log.bad n)
  a-record : {e : Entry} {k : ℕ} → Seen s (log.entry e k)

reply-seen : (s : List ℕ) (size : ℕ) (r : Said) → Seen s (found_as size r)
reply-seen s size (said.outcome a) = a-record
reply-seen s size (said.refusal n) = a-record
reply-seen s size (said.unreadable n) = a-fault

found-seen : (s : List ℕ) → Seen s (found_in s)
unfolding found_in waits
found-seen [] = nothing refl
found-seen (x ∷ s) = reply-seen (x ∷ s) (size_in (x ∷ s)) (answer_in (take (size_in (x ∷ s)) (x ∷ s)))

whole-seen : (s : List ℕ) → Seen s (found_whole s)
unfolding found_whole
whole-seen s = if-case (Seen s) (waits s) (λ e. nothing e) (λ e. found-seen s)

abbrev pub Waiting : List ℕ → List ℕ → Type 0
Waiting o t = (waits o ≡ true) ⊎ (waits t ≡ true)

abbrev is_going : Option Compared → Bool
is_going None = true
is_going (Some verdict) = false

record Left (o t : List ℕ) (p : Progress) : Type 0 where
  pub waiting : p.found ≡ None → Waiting (drop p.ours o) (drop p.theirs t)

ended-left : (o t : List ℕ) (place : ℕ) (w : Turn) → is_going (found_by place w) ≡ false → Left o t (stopped_at 0 0 place w)
ended-left o t place w h = record { waiting = λ e. absurd (false≢true (sym h ∙ ap is_going e)) }

going-left : (o t : List ℕ) (place : ℕ) (w : Turn) → Waiting o t → Left o t (stopped_at 0 0 place w)
going-left o t place w h = record { waiting = λ e. h }

behind-left : (o t : List ℕ) (j k : ℕ) (s : Stop) → Left (drop j o) (drop k t) (progress_of s) →
    Left o t (progress_of (behind j k s))
behind-left o t j k s h =
    record {
      waiting = λ e. ⊎_elim (λ a. inl (rw (drop-drop s.ours j o) at a))
          (λ b. inr (rw (drop-drop s.theirs k t) at b)) (h.waiting e);
    }

module _ (o t : List ℕ) (place : ℕ) (next : ℕ → ℕ → Stop) (same : (j k : ℕ) → 1 ≤ k → k ≤ length t →
    Left (drop j o) (drop k t) (progress_of (next j k))) where
  match-left : (j k : ℕ) (m : Option Difference) → Moves o t (turn_by m j k) → Left o t (progress_of (passed place next (turn_by m j k)))
  unfolding turn_by found_by
  match-left j k None (moves a b c d) = behind-left o t j k (next j k) (same j k c d)
  match-left j k (Some d) m = ended-left o t place (turn.Different d) refl

  turn-left : (f g : log.Found) → Seen o f → Seen t g → Moves o t (turn_of f g) →
      Left o t (progress_of (passed place next (turn_of f g)))
  unfolding found_by
  turn-left log.ended (log.bad n) p q m = ended-left o t place (turn.Unreadable n) refl
  turn-left (log.bad i) (log.bad n) p q m = ended-left o t place (turn.Unreadable n) refl
  turn-left (log.entry a j) (log.bad n) p q m = ended-left o t place (turn.Unreadable n) refl
  turn-left log.ended log.ended (nothing h) q m = going-left o t place turn.BothEnded (inl h)
  turn-left (log.bad i) log.ended p (nothing h) m = going-left o t place (turn.OneEnded difference.NoneOfOurs) (inr h)
  turn-left (log.entry a j) log.ended p (nothing h) m = going-left o t place (turn.OneEnded difference.NoneOfTheirs) (inr h)
  turn-left log.ended (log.entry b k) (nothing h) q m = going-left o t place (turn.OneEnded difference.NoneOfOurs) (inl h)
  turn-left (log.bad i) (log.entry b k) p q m = ended-left o t place (turn.Different difference.NoneOfOurs) refl
  turn-left (log.entry a j) (log.entry b k) p q m = match-left j k (matched_entries a b) m

walk-left : (n place : ℕ) (o t : List ℕ) → length t < n → Left o t (progress_of (walked found_whole n place o t))
unfolding walked
walk-left zero place o t h = absurd (omega arith)
walk-left (suc n) place o t h =
    turn-left o t place _ (λ j k one fits. walk-left n (next_place place) (drop j o) (drop k t) (omega (arith, length-drop k t)))
    (found_whole o) (found_whole t) (whole-seen o) (whole-seen t) (moves-on found_whole whole-sized o t)

-- Where more is needed, one side at least waits for more of a record, or has none.
pub going-waits : (place : ℕ) (o t : List ℕ) → (advanced place o t).found ≡ None →
    Waiting (drop (advanced place o t).ours o) (drop (advanced place o t).theirs t)
unfolding advanced first_stop
going-waits place o t = (walk-left (suc (length t)) place o t (omega arith)).waiting

-- ---- no more bytes are used than there are

record Within (o t : List ℕ) (s : Stop) : Type 0 where
  pub ours-fit : s.ours ≤ length o
  pub theirs-fit : s.theirs ≤ length t

passed-within : (o t : List ℕ) (place : ℕ) (next : ℕ → ℕ → Stop) → ((j k : ℕ) → Within (drop j o) (drop k t) (next j k))
    → (w : Turn) → Moves o t w → Within o t (passed place next w)
passed-within o t place next same (turn.Onward j k) (moves a b c d) =
    record {
      ours-fit = omega (arith, (same j k).ours-fit, length-drop j o);
      theirs-fit = omega (arith, (same j k).theirs-fit, length-drop k t);
    }
passed-within o t place next same (turn.Unreadable n) m = record { ours-fit = omega arith; theirs-fit = omega arith }
passed-within o t place next same (turn.Different d) m = record { ours-fit = omega arith; theirs-fit = omega arith }
passed-within o t place next same turn.BothEnded m = record { ours-fit = omega arith; theirs-fit = omega arith }
passed-within o t place next same (turn.OneEnded d) m = record { ours-fit = omega arith; theirs-fit = omega arith }

walk-within : (n place : ℕ) (o t : List ℕ) → Within o t (walked found_whole n place o t)
unfolding walked
walk-within zero place o t = record { ours-fit = omega arith; theirs-fit = omega arith }
walk-within (suc n) place o t =
    passed-within o t place _ (λ j k. walk-within n (next_place place) (drop j o) (drop k t))
    (turn_of (found_whole o) (found_whole t)) (moves-on found_whole whole-sized o t)

pub used-within : (place : ℕ) (o t : List ℕ) → ((advanced place o t).ours ≤ length o) × ((advanced place o t).theirs ≤ length t)
unfolding advanced first_stop
used-within place o t = let w = walk-within (suc (length t)) place o t in (w.ours-fit, w.theirs-fit)
