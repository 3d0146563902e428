-- Each figure of a tally over the list of records: how many, the sum, the largest; and any two tallies agree. Assumes nothing.
use Rattle.std.proofs.Common.{◌≡◌, ℕ, ◌+◌, ◌<◌, ◌≤◌, Bool, true, false, List, [], ◌∷◌, length, get_or, refl, ap, ◌∙◌, le_trans, arith}
use native.Mathlib.Nat.{max-le, le-max_left, le-max_right}
use Rattle.std.specs.Prelude.{Result, Ok, Err}
use Rattle.admission.specs.declared.refusal.Refusal.{Refusal}
use Rattle.admission.specs.Refusals.{refusal_of}
use Rattle.admission.proofs.FaultLaws.{refusal-back}
use Rattle.arithmetic.specs.Binary32.{when◌then◌else◌}
use Rattle.arithmetic.proofs.Agree.{agree-read}
use Rattle.arithmetic.proofs.Lists.{All, none, more}
use Rattle.answer_logs.specs.Logs.{Entry, records_in}
use Rattle.daily_tally.specs.declared.DayTally.{DayTally}
use Rattle.daily_tally.specs.declared.Progress.{Progress}
use Rattle.daily_tally.specs.declared.RefusedAt.{RefusedAt}
use Rattle.daily_tally.specs.Figures as walked
use Rattle.daily_tally.specs.Figures.{sum_of, largest_of, one, count_of, is_outcome, is_refusal, names_failed, probes_of, tally_of, Walked, Tallied, tallied, refused_by, tallied_of}
use Rattle.daily_tally.specs.Steps.{Advance, advance_of}
use Rattle.daily_tally.proofs.AddingLaws.{below_at}

-- ---- the figures of a list

module _ (l : List Entry) where
  pub outcomes-are : (code : ℕ) → code < 6 → get_or (tally_of l).outcomes code 0 ≡ count_of (is_outcome code) l
  unfolding tally_of
  outcomes-are code h = below_at 6 (λ c. count_of (is_outcome c) l) code h

  pub refusals-are : (number : ℕ) → number < 16 → get_or (tally_of l).refusals number 0 ≡ count_of (is_refusal number) l
  unfolding tally_of
  refusals-are number h = below_at 16 (λ n. count_of (is_refusal n) l) number h

  pub probes-are : (tally_of l).probes ≡ sum_of probes_of l
  unfolding tally_of
  probes-are = refl

  pub largest-is : (tally_of l).largest ≡ largest_of probes_of l
  unfolding tally_of
  largest-is = refl

  pub failed-are : (tally_of l).failed ≡ count_of names_failed l
  unfolding tally_of
  failed-are = refl

-- ---- a count is a length

-- the records that pass a test
abbrev keep : Bool → Entry → List Entry → List Entry
keep true e l = e ∷ l
keep false e l = l

abbrev pub passing : (Entry → Bool) → List Entry → List Entry
passing test [] = []
passing test (e ∷ l) = keep (test e) e (passing test l)

kept-one : (b : Bool) (e : Entry) (l : List Entry) → one b + length l ≡ length (keep b e l)
unfolding one when◌then◌else◌
kept-one true e l = omega arith
kept-one false e l = omega arith

pub count-is-length : (test : Entry → Bool) (l : List Entry) → count_of test l ≡ length (passing test l)
unfolding count_of sum_of
count-is-length test [] = refl
count-is-length test (e ∷ l) = ap (λ (n : ℕ). one (test e) + n) (count-is-length test l) ∙ kept-one (test e) e (passing test l)

-- ---- none is larger than the largest, and it is no larger than that

pub none-larger : (number : Entry → ℕ) (l : List Entry) → All (λ e. number e ≤ largest_of number l) l
unfolding largest_of
none-larger number l = up number l (largest_of number l) (omega arith)
  where
    up : (number : Entry → ℕ) (l : List Entry) (top : ℕ) → largest_of number l ≤ top → All (λ e. number e ≤ top) l
    up number [] top h = none
    up number (e ∷ l) top h = more (le_trans (le-max_left (number e) (largest_of number l)) h)
        (up number l top (le_trans (le-max_right (number e) (largest_of number l)) h))

pub largest-least : (number : Entry → ℕ) (l : List Entry) (top : ℕ) → All (λ e. number e ≤ top) l → largest_of number l ≤ top
unfolding largest_of
largest-least number [] top none = omega arith
largest-least number (e ∷ l) top (more h hs) = max-le h (largest-least number l top hs)

-- ---- any two outcomes agree

-- the result that it is told by
tallied_as : Tallied → Result DayTally RefusedAt
tallied_as t = by t.walked
  where
    by : Walked → Result DayTally RefusedAt
    by walked.to-end = Ok t.tally
    by (walked.stopped n place) = Err (refused_by (refusal_of n) place)

tallied-back : (r : Result DayTally RefusedAt) → tallied_as (tallied_of r) ≡ r
unfolding tallied_as
tallied-back (Ok t) = refl
tallied-back (Err e) = ap (λ (r : Refusal). Err (refused_by r e.place)) (refusal-back e.refusal)

-- whatever tally is promised, of a log or of its last part
pub tallied-agree : {one other : Result DayTally RefusedAt} {promised : Tallied} → tallied_of one ≡ promised →
    tallied_of other ≡ promised → one ≡ other
tallied-agree = agree-read tallied_of tallied_as tallied-back

pub tallies-agree : (most : ℕ) (log : List ℕ) {first second : Result DayTally RefusedAt} →
    tallied_of first ≡ tallied (records_in most log) → tallied_of second ≡ tallied (records_in most log) → first ≡ second
tallies-agree most log p q = tallied-agree p q

-- of a part
advance_as : Advance → Result Progress RefusedAt
advance_as a = by a.walked
  where
    by : Walked → Result Progress RefusedAt
    by walked.to-end = Ok (record { used = a.used; place = a.place; tally = a.tally })
    by (walked.stopped n place) = Err (refused_by (refusal_of n) place)

advance-back : (r : Result Progress RefusedAt) → advance_as (advance_of r) ≡ r
unfolding advance_as
advance-back (Ok p) = refl
advance-back (Err e) = ap (λ (r : Refusal). Err (refused_by r e.place)) (refusal-back e.refusal)

pub advances-agree : {one other : Result Progress RefusedAt} {promised : Advance} → advance_of one ≡ promised →
    advance_of other ≡ promised → one ≡ other
advances-agree = agree-read advance_of advance_as advance-back
