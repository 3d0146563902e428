-- However a log is cut into reads, the page is that of the whole; and that of a log lent whole is its tally. Assumes nothing.
use Rattle.std.proofs.Common.{◌≡◌, ℕ, suc, ◌+◌, ◌-◌, ◌^◌, ◌<◌, ◌≤◌, Bool, true, false, ltb, List, [], ◌∷◌, ◌++◌, length, drop, sym, refl, ap, ◌∙◌, append_assoc, append-nil, add-zero, zero-add, arith}
use native.Mathlib.Nat.{sub-zero}
use mathlib.Core.List.{foldl}
use Rattle.arithmetic.specs.Binary32.{when◌then◌else◌}
use Rattle.arithmetic.proofs.Lists.{All, none, more}
use Rattle.fields.specs.Bytes.{AllBytes}
use Rattle.fields.proofs.ByteLaws.{append-bytes}
use Rattle.answer_records.proofs.ReplyLaws.{outcome-code, refusal-code}
use Rattle.answer_logs.specs.Logs.{Entry, outcome, refusal, Records, whole, refused_at, ahead, most_records, records_from, records_in}
use Rattle.answer_logs.specs.Parts.{Wholes, reached, stopped, wholes_from}
use Rattle.answer_logs.proofs.CutLaws.{ahead_all, joined_to, cut-anywhere, closing, closed}
use Rattle.daily_tally.specs.declared.DayTally.{DayTally}
use Rattle.daily_tally.specs.Figures as walked
use Rattle.daily_tally.specs.Figures.{tally_of, Walked, Tallied, tallied}
use Rattle.daily_tally.specs.Adding.{sum64, with_entry}
use Rattle.daily_tally.specs.Steps.{told_whole, told_beside, told_refused, going, stopped_at, progress, largest_in, advanced, ended_as, ended_by, finished}
use Rattle.daily_tally.proofs.AddingLaws.{added, tally-fold, Kept, kept-nothing, kept-added, unwrapped-outcome, unwrapped-refusal}
use Rattle.daily_tally.proofs.GoodLaws.{Good, good-outcome, good-refusal, good-small, GoodWholes, good-reached, good-stopped, good-wholes, drop-bytes, bytes_small}

-- ---- what is told of the records that are left, on top of a tally

abbrev on_top : DayTally → Records → Tallied
on_top t (whole l) = told_whole (foldl added t l)
on_top t (refused_at n place) = told_refused n place

on-nothing : (w : Records) → tallied w ≡ on_top (tally_of []) w
unfolding tallied told_whole told_beside
on-nothing (whole l) = ap told_whole (sym (tally-fold l))
on-nothing (refused_at n place) = refl

on-ahead : (t : DayTally) (e : Entry) (w : Records) → on_top t (ahead e w) ≡ on_top (added t e) w
on-ahead t e (whole l) = refl
on-ahead t e (refused_at n place) = refl

on-ahead-all : (t : DayTally) (l : List Entry) (w : Records) → on_top t (ahead_all l w) ≡ on_top (foldl added t l) w
on-ahead-all t [] w = refl
on-ahead-all t (e ∷ l) w = on-ahead t e (ahead_all l w) ∙ on-ahead-all (added t e) l w

-- ---- nothing wraps

unwrapped : (place : ℕ) (t : DayTally) → Kept place t → place < 4294967295 → (e : Entry) → Good e → with_entry sum64 t e
    ≡ added t e
unwrapped place t kept h (outcome a) (good-outcome e k) =
    unwrapped-outcome place t kept h a (omega (arith, (outcome-code a.code e).1)) k
unwrapped place t kept h (refusal n) (good-refusal e) =
    unwrapped-refusal place t kept h n (omega (arith, (refusal-code (128 + n) e).1))

record Folded (place : ℕ) (t : DayTally) (l : List Entry) : Type 0 where
  same : foldl (with_entry sum64) t l ≡ foldl added t l
  kept : Kept (place + length l) (foldl added t l)

folded : (place : ℕ) (t : DayTally) → Kept place t → (l : List Entry) → All Good l → place + length l ≤ 4294967295 →
    Folded place t l
folded place t kept [] none h = record { same = refl; kept = rw (add-zero place) kept }
folded place t kept (e ∷ l) (more g gs) h =
    let rest = folded (place + 1) (added t e) (kept-added place t kept e (good-small e g)) l gs (omega arith) in
    let next : place + suc (length l) ≡ place + 1 + length l = omega arith in
    record {
      same = ap (λ (x : DayTally). foldl (with_entry sum64) x l) (unwrapped place t kept (omega arith) e g)
          ∙ rest.same;
      kept = rw next rest.kept;
    }

-- ---- the log's end

end-as : (b : Bool) (place : ℕ) (t : DayTally) → ended_as walked.to-end b place t
    ≡ on_top t (when b then refused_at 2 place else whole [])
unfolding when◌then◌else◌
end-as true place t = refl
end-as false place t = refl

module _ (most : ℕ) (limit : most ≤ most_records) (place : ℕ) (t : DayTally) (kept : Kept place t) (h : place ≤ most) where
  finish-as : (n : ℕ) (w : Wholes) → GoodWholes (most - place) w → ended_by n (progress 0 place t w) ≡ on_top t (closing n place w)
  unfolding going stopped_at
  finish-as n (reached l used) (good-reached k gs) =
      let f = folded place t kept l gs (omega arith) in
      ap (λ (x : DayTally). ended_as walked.to-end (ltb (0 + used) n) (place + length l) x) f.same
      ∙ ap (λ (m : ℕ). ended_as walked.to-end (ltb m n) (place + length l) (foldl added t l)) (zero-add used)
      ∙ end-as (ltb used n) (place + length l) (foldl added t l)
      ∙ sym (on-ahead-all t l (when ltb used n then refused_at 2 (place + length l) else whole []))
  finish-as n (stopped m p) good-stopped = refl

  finish-told : (s : List ℕ) → largest_in (wholes_from (most - place) place s) < 2 ^ 32 → finished most s place t
      ≡ on_top t (records_from (most - place) place s)
  unfolding finished advanced
  finish-told s small =
      finish-as (length s) (wholes_from (most - place) place s) (good-wholes (most - place) place s small)
      ∙ sym (ap (on_top t) (closed (most - place) place s))

-- a log lent whole
pub whole-told : (most : ℕ) → most ≤ most_records → (s : List ℕ) → largest_in (wholes_from (most - 0) 0 s) < 2 ^ 32 →
    finished most s 0 (tally_of []) ≡ tallied (records_in most s)
unfolding records_in
whole-told most limit s small =
    finish-told most limit 0 (tally_of []) kept-nothing (omega arith) s small
    ∙ ap (λ (n : ℕ). on_top (tally_of []) (records_from n 0 s)) (sub-zero most) ∙ sym (on-nothing (records_from most 0 s))

-- ---- the page of a log that comes in reads, each put behind what the last step left

abbrev page_as : Walked → Tallied → Tallied
page_as (walked.stopped n p) page = told_refused n p
page_as walked.to-end page = page

abbrev pub paged : ℕ → List ℕ → ℕ → DayTally → List (List ℕ) → Tallied
paged most left place t [] = finished most left place t
paged most left place t (r ∷ reads) =
    page_as (advanced most (left ++ r) place t).walked
    (paged most (drop (advanced most (left ++ r) place t).used (left ++ r)) (advanced most (left ++ r) place t).place
    (advanced most (left ++ r) place t).tally reads)

abbrev pub together : List (List ℕ) → List ℕ
together [] = []
together (r ∷ reads) = r ++ together reads

module _ (most : ℕ) (limit : most ≤ most_records) where
  -- what the reads behind a part tell, on top of any tally that records gave
  abbrev Tell : List (List ℕ) → Type 0
  Tell reads = (left : List ℕ) (place : ℕ) (t : DayTally) → Kept place t → place ≤ most → AllBytes left →
      paged most left place t reads ≡ on_top t (records_from (most - place) place (left ++ together reads))

  module _ (place : ℕ) (t : DayTally) (kept : Kept place t) (h : place ≤ most) (s : List ℕ) (bytes : AllBytes s)
      (reads : List (List ℕ)) (rest : Tell reads) where
    page-as : (w : Wholes) → GoodWholes (most - place) w →
        page_as (progress 0 place t w).walked (paged most (drop (progress 0 place t w).used s)
        (progress 0 place t w).place (progress 0 place t w).tally reads) ≡
        on_top t (joined_to (most - place) place s (together reads) w)
    unfolding going stopped_at
    page-as (reached l used) (good-reached k gs) =
        let f = folded place t kept l gs (omega arith) in
        let less : most - (place + length l) ≡ most - place - length l = omega arith in
        ap (λ (x : DayTally). paged most (drop (0 + used) s) (place + length l) x reads) f.same
        ∙ ap (λ (m : ℕ). paged most (drop m s) (place + length l) (foldl added t l) reads) (zero-add used)
        ∙ rest (drop used s) (place + length l) (foldl added t l) f.kept (omega arith) (drop-bytes used s bytes)
        ∙ ap (λ (m : ℕ). on_top (foldl added t l) (records_from m (place + length l) (drop used s ++ together reads))) less
        ∙ sym (on-ahead-all t l (records_from (most - place - length l) (place + length l) (drop used s ++ together reads)))
    page-as (stopped n p) good-stopped = refl

  page-told : (reads : List (List ℕ)) → All AllBytes reads → Tell reads
  unfolding advanced
  page-told [] none left place t kept h bytes =
      finish-told most limit place t kept h left (bytes_small (most - place) place left bytes)
      ∙ ap (λ (s : List ℕ). on_top t (records_from (most - place) place s)) (sym (append-nil left))
  page-told (r ∷ reads) (more b bs) left place t kept h bytes =
      let s = left ++ r in
      let both = append-bytes left r bytes b in
      let w = wholes_from (most - place) place s in
      page-as place t kept h s both reads (page-told reads bs) w
      (good-wholes (most - place) place s (bytes_small (most - place) place s both))
      ∙ sym (ap (on_top t) (cut-anywhere (most - place) place s (together reads)))
      ∙ ap (λ (x : List ℕ). on_top t (records_from (most - place) place x)) (append_assoc left r (together reads))

  -- from no records on: whatever the reads, the page is the tally of the whole log
  pub any-reads : (reads : List (List ℕ)) → All AllBytes reads → paged most [] 0 (tally_of []) reads
      ≡ tallied (records_in most (together reads))
  unfolding records_in
  any-reads reads bytes =
      page-told reads bytes [] 0 (tally_of []) kept-nothing (omega arith) (λ i. omega arith)
      ∙ ap (λ (n : ℕ). on_top (tally_of []) (records_from n 0 (together reads))) (sub-zero most)
      ∙ sym (on-nothing (records_from most 0 (together reads)))
