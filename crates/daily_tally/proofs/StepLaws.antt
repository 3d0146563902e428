-- The walk over a part of a log, one step after the other, in the code's words. Assumes nothing.
use Rattle.std.proofs.Common.{◌≡◌, ℕ, zero, suc, ◌+◌, ◌-◌, ◌^◌, ◌<◌, ◌≤◌, Bool, true, false, ltb, List, [], length, drop, sym, refl, ap, ◌∙◌, arith, ltb-false, ltb-true, lt-ltb}
use native.Mathlib.Nat.{max-le}
use mathlib.Core.List.{foldl}
use Rattle.arithmetic.specs.Binary32.{when◌then◌else◌}
use Rattle.arithmetic.proofs.Choice.{if-all, if-case}
use Rattle.answer_records.proofs.ReplyLaws.{outcome-code, refusal-code}
use Rattle.answer_logs.specs.Logs as logged
use Rattle.answer_logs.specs.Logs.{Entry, outcome, refusal, Logged}
use Rattle.answer_logs.specs.Parts.{whole_at, Wholes, reached, stopped, ahead_whole, wholes_from}
use Rattle.answer_logs.proofs.RecordLaws.{Stands, no_record, bad-record, an-outcome, a-refusal}
use Rattle.answer_logs.proofs.PartLaws.{whole-stands, onward_at, next-whole, one-too-many, just_enough}
use Rattle.daily_tally.specs.declared.DayTally.{DayTally}
use Rattle.daily_tally.specs.Figures.{largest_of, probes_of, tally_of}
use Rattle.daily_tally.specs.Adding.{sum64, has_place, with_entry}
use Rattle.daily_tally.specs.Steps.{whole_within, probes_at, Met, record-met, end-met, fault-met, Step, step_by, stepped, Advance, going, stopped_at, progress, largest_in}

-- ---- the record at a byte, within the limit

-- where so many more may begin, a record lies within the part, and has a place among the figures
data Within (left : ℕ) (s : List ℕ) (at : ℕ) : Logged → Type 0 where
  none : Within left s at logged.nothing
  faulty : {n : ℕ} → Within left s at (logged.faulty n)
  counted : {e : Entry} {behind : ℕ} → 0 < left → at < behind → behind ≤ length s → has_place e →
      Within left s at (logged.placed e behind)

module _ (left : ℕ) (s : List ℕ) (at : ℕ) where
  within-stands : 0 < left → (w : Logged) → Stands s at w → Within left s at w
  within-stands h (logged.nothing) no_record = none
  within-stands h (logged.faulty n) bad-record = faulty
  within-stands h (logged.placed (outcome a) behind) (an-outcome p q e) =
      counted h p q (omega (arith, (outcome-code a.code e).1))
  within-stands h (logged.placed (refusal n) behind) (a-refusal p q e) =
      counted h p q (omega (arith, (refusal-code (128 + n) e).1))

  within : Within left s at (whole_within left s at)
  unfolding whole_within
  within =
      if-case (Within left s at) (ltb 0 left) (λ h. within-stands (ltb-true 0 left h) (whole_at s at) (whole-stands s at))
      (λ h. if-all (Within left s at) (ltb at (length s)) faulty none)

-- ---- the records from a byte on, by the one that stands there

module _ (place : ℕ) (s : List ℕ) (at : ℕ) where
  at-limit : (more : ℕ → Wholes) (b : Bool) → ltb at (length s) ≡ b → wholes_from 0 place (drop at s)
      ≡ onward_at at place more (when b then logged.faulty 4 else logged.nothing)
  unfolding when◌then◌else◌
  at-limit more true e = one-too-many place s at (ltb-true at (length s) e)
  at-limit more false e = just_enough place s at (ltb-false at (length s) e)

  next-within : (left : ℕ) → wholes_from left place (drop at s)
      ≡ onward_at at place (λ behind. wholes_from (left - 1) (place + 1) (drop behind s)) (whole_within left s at)
  unfolding whole_within when◌then◌else◌
  next-within zero = at-limit _ (ltb at (length s)) refl
  next-within (suc left) =
      let less : suc left - 1 ≡ left = omega arith in
      rw (lt-ltb 0 (suc left) (omega arith), less) (next-whole place s at left)

-- ---- what a step met

-- a record was met, behind which the walk goes on
pub record Moved (left place : ℕ) (s : List ℕ) (at : ℕ) (e : Entry) (behind : ℕ) : Type 0 where
  pub allowed : 0 < left
  pub onward : at < behind
  pub inside : behind ≤ length s
  pub fits : has_place e
  pub walks : wholes_from left place (drop at s)
      ≡ ahead_whole e (behind - at) (wholes_from (left - 1) (place + 1) (drop behind s))

pub step_by_lem : (left : ℕ) (s : List ℕ) (at : ℕ) (t : DayTally) {w : Logged} → w ≡ whole_within left s at → probes_at w < 2 ^ 32 →
    (step_by at t w ≡ stepped left s at t) × (probes_at (whole_within left s at) < 2 ^ 32)
unfolding stepped
step_by_lem left s at t p f = (ap (step_by at t) p, rw (← p) f)

module _ (left place : ℕ) (s : List ℕ) (at : ℕ) where
  abbrev here : Wholes
  here = wholes_from left place (drop at s)

  abbrev rest : ℕ → Wholes
  rest behind = wholes_from (left - 1) (place + 1) (drop behind s)

  here-by : {w : Logged} → w ≡ whole_within left s at → here ≡ onward_at at place rest w
  here-by p = next-within place s at left ∙ ap (onward_at at place rest) (sym p)

  pub met-end : logged.nothing ≡ whole_within left s at → here ≡ reached [] 0
  met-end p = here-by p

  pub met-fault : {n : ℕ} → logged.faulty n ≡ whole_within left s at → here ≡ stopped n place
  met-fault p = here-by p

  moved-as : {e : Entry} {behind : ℕ} → Within left s at (logged.placed e behind) → here ≡ onward_at at place rest (logged.placed e behind)
      → Moved left place s at e behind
  moved-as (counted l p q c) h = record { allowed = l; onward = p; inside = q; fits = c; walks = h }

  pub met-record : {e : Entry} {behind : ℕ} → logged.placed e behind ≡ whole_within left s at → Moved left place s at e behind
  met-record p = moved-as (rw (← p) at (within left s at)) (here-by p)

-- ---- one record more

progress-ahead : (at place : ℕ) (t : DayTally) (e : Entry) (size : ℕ) (w : Wholes) →
    progress at place t (ahead_whole e size w) ≡ progress (at + size) (place + 1) (with_entry sum64 t e) w
progress-ahead at place t e size (reached l used) =
    let behind : at + (size + used) ≡ at + size + used = omega arith in
    let next : place + suc (length l) ≡ place + 1 + length l = omega arith in
    ap (λ (n : ℕ). going n (place + suc (length l)) (foldl (with_entry sum64) (with_entry sum64 t e) l)) behind
    ∙ ap (λ (n : ℕ). going (at + size + used) n (foldl (with_entry sum64) (with_entry sum64 t e) l)) next
progress-ahead at place t e size (stopped n p) = refl

pub progress-none : (at place : ℕ) (t : DayTally) → progress at place t (reached [] 0) ≡ going at place t
progress-none at place t =
    let used : at + 0 ≡ at = omega arith in
    let next : place + 0 ≡ place = omega arith in
    ap (λ (n : ℕ). going n (place + 0) t) used ∙ ap (λ (n : ℕ). going at n t) next

pub largest-ahead : (e : Entry) (size : ℕ) (w : Wholes) → probes_of e < 2 ^ 32 → largest_in w < 2 ^ 32 →
    largest_in (ahead_whole e size w) < 2 ^ 32
unfolding largest_of
largest-ahead e size (reached l used) h k =
    let one : probes_of e ≤ 4294967295 = omega arith in
    let others : largest_of probes_of l ≤ 4294967295 = omega arith in
    omega (arith, max-le one others)
largest-ahead e size (stopped n p) h k = omega arith

module _ (most place : ℕ) (s : List ℕ) (at : ℕ) {e : Entry} {behind : ℕ} (m : Moved (most - place) place s at e behind) where
  less : most - place - 1 ≡ most - (place + 1)
  less = omega arith

  pub goes_on : (t : DayTally) {u : DayTally} → u ≡ with_entry sum64 t e → progress at place t (wholes_from (most - place) place (drop at s))
      ≡ progress behind (place + 1) u (wholes_from (most - (place + 1)) (place + 1) (drop behind s))
  goes_on t {u} p =
      let there : at + (behind - at) ≡ behind = omega (arith, m.onward) in
      let rest = wholes_from (most - place - 1) (place + 1) (drop behind s) in
      ap (progress at place t) m.walks ∙ progress-ahead at place t e (behind - at) rest
      ∙ ap (λ (n : ℕ). progress n (place + 1) (with_entry sum64 t e) rest) there
      ∙ ap (λ (x : DayTally). progress behind (place + 1) x rest) (sym p)
      ∙ ap (λ (n : ℕ). progress behind (place + 1) u (wholes_from n (place + 1) (drop behind s))) less

  pub stays-small : probes_of e < 2 ^ 32 → largest_in (wholes_from (most - (place + 1)) (place + 1) (drop behind s)) < 2 ^ 32 →
      largest_in (wholes_from (most - place) place (drop at s)) < 2 ^ 32
  stays-small small h =
      let rest = wholes_from (most - place - 1) (place + 1) (drop behind s) in
      rw m.walks (largest-ahead e (behind - at) rest small (rw less h))

-- ---- the walk from a byte on, by the step there

abbrev pub walk_on : ℕ → ℕ → List ℕ → Step → Advance
walk_on most place s r = by r.met
  where
    by : Met → Advance
    by end-met = going r.behind place r.tally
    by (fault-met n) = stopped_at n place (tally_of [])
    by record-met = progress r.behind (place + 1) r.tally (wholes_from (most - (place + 1)) (place + 1) (drop r.behind s))

pub stepped-on : (most place : ℕ) (s : List ℕ) (at : ℕ) (t : DayTally) → progress at place t (wholes_from (most - place) place (drop at s))
    ≡ walk_on most place s (stepped (most - place) s at t)
unfolding stepped
stepped-on most place s at t = go (whole_within (most - place) s at) refl
  where
    go : (w : Logged) → w ≡ whole_within (most - place) s at → progress at place t (wholes_from (most - place) place (drop at s))
        ≡ walk_on most place s (step_by at t w)
    go (logged.nothing) p = ap (progress at place t) (met-end (most - place) place s at p) ∙ progress-none at place t
    go (logged.faulty n) p = ap (progress at place t) (met-fault (most - place) place s at p)
    go (logged.placed e behind) p = goes_on most place s at (met-record (most - place) place s at p) t refl
