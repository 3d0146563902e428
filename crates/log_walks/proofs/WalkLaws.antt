-- Laws of a walk: what it rests on, and its loop's step. Assumes nothing.
use Prim.Native.Nat.{ℕ, zero, suc, ◌+◌, ◌-◌, ◌*◌, ◌≤◌, ◌<◌}
use native.Mathlib.Omega.{arith}
use native.Mathlib.Nat.{zero-add, add-zero, add_assoc}
use mathlib.Core.Path.{◌≡◌, refl, sym, ap, ◌∙◌}
use mathlib.Core.Bool.{Bool, true, false}
use mathlib.Core.List.{List}
use lib.ListN.{length, take, drop, length-take, length-drop}
use lib.Seq.{take-take, drop-drop}
use Rattle.std.specs.Prelude.{Option, Some, None, Result, Ok, Err}
use Rattle.arithmetic.specs.Binary32.{when◌then◌else◌}
use Rattle.admission.specs.declared.refusal.Refusal.{Refusal}
use Rattle.answer_records.specs.Answers.{longest_answer}
use Rattle.answer_records.specs.declared.Reply.{Reply}
use Rattle.answer_records.specs.declared.Reply.TheVariants as reply
use Rattle.answer_records.specs.Numbers.{numbered}
use Rattle.answer_logs.specs.Logs.{Entry, outcome, refusal, Found, ended, bad, entry, found_in, Logged, logged_as, logged_at, entry_of, logged_of}
use Rattle.log_walks.specs.Figures.{is_fallback, fallback, outcome_code, fallback_by}
use Rattle.log_walks.specs.Walks.{Met, more, onward, walked, own_bytes, reach_by, reach, passed_by, passed_at, passed, told_by, logged_by}
use Rattle.log_walks.proofs.FoundLaws.{Sized, sized-end, sized, entry_found, size-within, own-entry, own-most, Alike, found_alike, end-alike, behind-alike}

-- ---- what a walk rests on

module _ (n k : ℕ) (s t : List ℕ) (a : Alike k s t) (next : (j : ℕ) (u v : List ℕ) → Alike j u v → reach n u ≤ j →
    walked n u ≡ walked n v) where
  onward-alike : (f : Found) → found_in s ≡ f → Sized s f → reach_by (own_bytes s) (λ size. reach n (drop size s)) f ≤ k →
      onward (λ size. walked n (drop size s)) f ≡ walked (suc n) t
  unfolding walked
  onward-alike ended e (sized-end h) r = rw (← end-alike k s t a h, e)
  onward-alike (bad m) e h r = rw (← found_alike k s t a r, e)
  onward-alike (entry x size) e h r =
      let own = own-entry s x size e in
      let z = entry_found s x size e in
      let f = sym (found_alike k s t a (omega arith)) ∙ e in
      rw f (ap (more (fallback x)) (next (k - size) (drop size s) (drop size t)
      (behind-alike size k s t z.2 (omega arith) a) (omega arith)))

-- bytes behind those that it reaches do not change it
pub walked-alike : (n k : ℕ) (s t : List ℕ) → Alike k s t → reach n s ≤ k → walked n s ≡ walked n t
unfolding walked reach
walked-alike zero k s t a h = refl
walked-alike (suc n) k s t a h = onward-alike n k s t a (walked-alike n) (found_in s) refl (sized s) h

reach-by : (n : ℕ) (s : List ℕ) → ((u : List ℕ) → reach n u ≤ longest_answer * n) → (f : Found) →
    reach_by (own_bytes s) (λ size. reach n (drop size s)) f ≤ longest_answer * suc n
reach-by n s next ended = omega arith
reach-by n s next (bad r) = omega (arith, own-most s)
reach-by n s next (entry e size) = omega (arith, own-most s, next (drop size s))

-- it reaches no further than the longest records do
pub reach-most : (n : ℕ) (s : List ℕ) → reach n s ≤ longest_answer * n
unfolding reach
reach-most zero s = omega arith
reach-most (suc n) s = reach-by n s (reach-most n) (found_in s)

-- a walk over the bytes that its records can have
pub stretch-walked : (n : ℕ) (s : List ℕ) → walked n (take (longest_answer * n) s) ≡ walked n s
stretch-walked n s =
    let k = longest_answer * n in
    sym (walked-alike n k s (take k s) (record {
      bytes = sym (take-take k k s (omega arith));
      ends = λ h. rw length-take (omega arith);
    }) (reach-most n s))

-- ---- a record that is passed

pub one-fallback : (e : Entry) → fallback e ≤ 1
unfolding when◌then◌else◌
one-fallback (outcome a) = go (is_fallback a.code)
  where
    go : (b : Bool) → (when b then 1 else 0) ≤ 1
    go true = omega arith
    go false = omega arith
one-fallback (refusal n) = omega arith

-- the record that a passed one is
pub record Met-record (found : Found) (at behind more : ℕ) : Type 0 where
  pub one : Entry
  pub size : ℕ
  pub there : found ≡ entry one size
  pub ends : behind ≡ at + size
  pub counts : more ≡ fallback one

pub passed-by : (at behind m : ℕ) (f : Found) → Ok (Some (behind, m)) ≡ passed_by (logged_as at f) → Met-record f at behind m
passed-by at behind m ended e = absurd (let z : ◌≡◌ {A = ℕ} 0 1 = cc in omega arith)
passed-by at behind m (bad r) e = absurd (let z : ◌≡◌ {A = ℕ} 0 1 = cc in omega arith)
passed-by at behind m (entry x size) e =
    let same : ◌≡◌ {A = ℕ × ℕ} (behind, m) (at + size, fallback x) = cc in
    record { one = x; size = size; there = refl; ends = ap (λ p. p.0) same; counts = ap (λ p. p.1) same }

-- a bad one, and the end
pub bad-by : (at r : ℕ) (f : Found) → Err r ≡ passed_by (logged_as at f) → f ≡ bad r
bad-by at r ended e = absurd (let z : ◌≡◌ {A = ℕ} 0 1 = cc in omega arith)
bad-by at r (bad m) e = let z : r ≡ m = cc in rw z
bad-by at r (entry x size) e = absurd (let z : ◌≡◌ {A = ℕ} 0 1 = cc in omega arith)

pub end_by : (at : ℕ) (f : Found) → Ok None ≡ passed_by (logged_as at f) → f ≡ ended
end_by at ended e = refl
end_by at (bad m) e = absurd (let z : ◌≡◌ {A = ℕ} 0 1 = cc in omega arith)
end_by at (entry x size) e = absurd (let z : ◌≡◌ {A = ℕ} 0 1 = cc in omega arith)

module _ (log : List ℕ) (at : ℕ) where
  pub passed-record : (behind m : ℕ) → Ok (Some (behind, m)) ≡ passed_at log at → Met-record (found_in (drop at log)) at behind m
  unfolding logged_at
  passed-record behind m e = passed-by at behind m (found_in (drop at log)) e

  passed-bad : (r n : ℕ) → Err r ≡ passed_at log at → walked (suc n) (drop at log) ≡ Err r
  unfolding logged_at walked
  passed-bad r n e = rw (bad-by at r (found_in (drop at log)) e)

  passed-end : (n : ℕ) → Ok None ≡ passed_at log at → walked (suc n) (drop at log) ≡ Err 2
  unfolding logged_at walked
  passed-end n e = rw (end_by at (found_in (drop at log)) e)

  module _ (behind m : ℕ) (r : Met-record (found_in (drop at log)) at behind m) where
    -- it ends behind its start, within the log
    pub passed-ends : (at + 4 ≤ behind) × (behind ≤ at + longest_answer) × (behind ≤ length log) × (m ≤ 1)
    passed-ends =
        let z = entry_found (drop at log) r.one r.size r.there in
        let w = size-within r.one in
        let l = length-drop at log in
        let e = r.ends in
        let c = r.counts in
        (omega arith, omega arith, omega arith, omega (arith, one-fallback r.one))

    pub passed-walk : (n : ℕ) → walked (suc n) (drop at log) ≡ more m (walked n (drop behind log))
    unfolding walked
    passed-walk n = rw (r.there, drop-drop r.size at log, ← r.ends, ← r.counts)

-- ---- what the code says, by a number for what it refuses with

pub passed-by-number : {R E : Type 0} (code_of : R → Option ℕ) (entry_in : R → Entry) (number : E → ℕ) →
    ((r : R) → fallback_by (code_of r) ≡ fallback (entry_in r)) → (l : Result (Option (R × ℕ)) E) →
    told_by number (passed code_of l) ≡ passed_by (logged_by entry_in number l)
passed-by-number code_of entry_in number same (Ok None) = refl
passed-by-number code_of entry_in number same (Err e) = refl
passed-by-number code_of entry_in number same (Ok (Some (r, behind))) = ap (λ (n : ℕ). Ok (Some (behind, n))) (same r)

pub counted-as : (r : Reply) → fallback_by (outcome_code r) ≡ fallback (entry_of r)
counted-as (reply.Outcome a) = refl
counted-as (reply.Refusal r) = refl

pub passed-numbered : (l : Result (Option (Reply × ℕ)) Refusal) → numbered (passed outcome_code l) ≡ passed_by (logged_of l)
passed-numbered (Ok None) = refl
passed-numbered (Err e) = refl
passed-numbered (Ok (Some (r, behind))) = ap (λ (n : ℕ). Ok (Some (behind, n))) (counted-as r)

pub passed-told : (l : Result (Option (Reply × ℕ)) Refusal) {r : Result (Option (ℕ × ℕ)) Refusal} {w : Logged} →
    r ≡ passed outcome_code l → logged_of l ≡ w → numbered r ≡ passed_by w
passed-told l e p = ap numbered e ∙ passed-numbered l ∙ ap passed_by p

-- ---- the walk's loop

pub none_more : (f : Met) → more 0 f ≡ f
none_more (Ok n) = rw zero-add
none_more (Err r) = refl

pub more-more : (a b : ℕ) (f : Met) → more a (more b f) ≡ more (a + b) f
more-more a b (Ok n) = rw add_assoc
more-more a b (Err r) = refl

-- i records are passed, `found` fallbacks among them, and the rest of the walk starts at place `at`
pub record Going (s : List ℕ) (count at found i : ℕ) : Type 0 where
  pub few : found ≤ i
  pub within : i ≤ count
  pub same : walked count s ≡ more found (walked (count - i) (drop at s))

module _ {s : List ℕ} {count at found i : ℕ} (g : Going s count at found i) (h : i < count) where
  left : count - i ≡ suc (count - (i + 1))
  left = omega arith

  pub goes_on : (behind m : ℕ) → Ok (Some (behind, m)) ≡ passed_at s at → Going s count behind (found + m) (i + 1)
  goes_on behind m e =
      let r = passed-record s at behind m e in
      record {
        few = omega (arith, g.few, (passed-ends s at behind m r).3);
        within = omega arith;
        same = g.same ∙ rw (left, passed-walk s at behind m r (count - (i + 1)), more-more);
      }

  pub stops : (r : ℕ) → Err r ≡ passed_at s at → Err r ≡ walked count s
  stops r e = sym (g.same ∙ rw (left, passed-bad s at r (count - (i + 1)) e))

  pub ends : Ok None ≡ passed_at s at → Err 2 ≡ walked count s
  ends e = sym (g.same ∙ rw (left, passed-end s at (count - (i + 1)) e))

pub goes_through : {s : List ℕ} {count at found i : ℕ} → Going s count at found i → count ≤ i → Ok found ≡ walked count s
unfolding walked
goes_through {count = count} {i = i} g h = let none : count - i ≡ 0 = omega arith in sym (g.same ∙ rw (none, add-zero))

pub begins : (s : List ℕ) (count : ℕ) → Going s count 0 0 0
begins s count =
    let all : count - 0 ≡ count = omega arith in
    record { few = omega arith; within = omega arith; same = sym (rw all (none_more (walked count s))) }

-- ---- fallbacks are no more than records

more-found : {C : Type 0} (k m : ℕ) (f : Met) → more k f ≡ Ok m → ((j : ℕ) → f ≡ Ok j → k + j ≡ m → C) → C
more-found k m (Ok j) e go = go j refl cc
more-found k m (Err r) e go = absurd (let z : ◌≡◌ {A = ℕ} 0 1 = cc in omega arith)

onward-few : (n : ℕ) (next : ℕ → Met) → ((size j : ℕ) → next size ≡ Ok j → j ≤ n) → (f : Found) (m : ℕ) →
    onward next f ≡ Ok m → m ≤ suc n
onward-few n next few ended m e = absurd (let z : ◌≡◌ {A = ℕ} 0 1 = cc in omega arith)
onward-few n next few (bad r) m e = absurd (let z : ◌≡◌ {A = ℕ} 0 1 = cc in omega arith)
onward-few n next few (entry x size) m e =
    more-found (fallback x) m (next size) e λ j p q. omega (arith, few size j p, one-fallback x)

pub walked-few : (n : ℕ) (s : List ℕ) (m : ℕ) → walked n s ≡ Ok m → m ≤ n
unfolding walked
walked-few zero s m e = let z : 0 ≡ m = cc in omega arith
walked-few (suc n) s m e = onward-few n _ (λ size j p. walked-few n (drop size s) j p) (found_in s) m e
