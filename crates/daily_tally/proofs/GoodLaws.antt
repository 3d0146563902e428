-- What the records of a log have: a code of their length, and, where the log is one of bytes, probes of 32 bits. Assumes nothing.
use Rattle.std.proofs.Common.{◌≡◌, ℕ, zero, suc, ◌+◌, ◌-◌, ◌^◌, ◌<◌, ◌≤◌, eqb, List, [], ◌∷◌, length, get_or, take, drop, arith, get_or-drop}
use native.Mathlib.Nat.{le-max_left, le-max_right}
use Rattle.arithmetic.specs.Binary32.{when◌then◌else◌}
use Rattle.arithmetic.proofs.Choice.{if-all}
use Rattle.arithmetic.proofs.Lists.{All, none, more}
use Rattle.words.specs.Words.{pair_of, word_of}
use Rattle.fields.specs.Bytes.{AllBytes}
use Rattle.admission.specs.Faults.{Fault, fine, fault, unless_fault}
use Rattle.answer_records.specs.declared.Answer.{Answer}
use Rattle.answer_records.specs.Replies as said
use Rattle.answer_records.specs.Answers.{outcome_length, refusal_length, refused_code}
use Rattle.answer_records.specs.Replies.{Said, length_of_code, answer_fault, outcome_in, answer_in}
use Rattle.answer_logs.specs.Logs.{Entry, outcome, refusal, Found, ended, bad, entry, found_as, size_in, found_in}
use Rattle.answer_logs.specs.Parts.{waits, found_whole, Wholes, reached, stopped, ahead_whole, onward_whole, wholes_from}
use Rattle.answer_logs.proofs.RecordLaws.{Coded, coded-outcome, coded-refusal, coded-fault, coded}
use Rattle.daily_tally.specs.Figures.{largest_of, probes_of}
use Rattle.daily_tally.specs.Steps.{largest_in}
use Rattle.daily_tally.proofs.StepLaws.{largest-ahead}

-- ---- a code of its length

data Named : Found → Type 0 where
  named_end : Named ended
  named-bad : {n : ℕ} → Named (bad n)
  named-outcome : {a : Answer} {size : ℕ} → length_of_code a.code ≡ outcome_length → Named (entry (outcome a) size)
  named-refusal : {n size : ℕ} → length_of_code (128 + n) ≡ refusal_length → Named (entry (refusal n) size)

named-reply : (size : ℕ) (r : Said) → Coded r → Named (found_as size r)
named-reply size (said.outcome a) (coded-outcome e) = named-outcome e
named-reply size (said.refusal n) (coded-refusal e) = named-refusal e
named-reply size (said.unreadable n) coded-fault = named-bad

named : (s : List ℕ) → Named (found_in s)
unfolding found_in
named [] = named_end
named (x ∷ s) = named-reply (size_in (x ∷ s)) (answer_in (take (size_in (x ∷ s)) (x ∷ s))) (coded (take (size_in (x ∷ s)) (x ∷ s)))

-- ---- the records of a part whose probes are of 32 bits

pub data Good : Entry → Type 0 where
  good-outcome : {a : Answer} → length_of_code a.code ≡ outcome_length → a.probes < 2 ^ 32 → Good (outcome a)
  good-refusal : {n : ℕ} → length_of_code (128 + n) ≡ refusal_length → Good (refusal n)

pub good-small : (e : Entry) → Good e → probes_of e < 2 ^ 32
good-small (outcome a) (good-outcome h k) = k
good-small (refusal n) (good-refusal h) = omega arith

pub data GoodWholes (left : ℕ) : Wholes → Type 0 where
  good-reached : {l : List Entry} {used : ℕ} → length l ≤ left → All Good l → GoodWholes left (reached l used)
  good-stopped : {n place : ℕ} → GoodWholes left (stopped n place)

good-ahead : (left : ℕ) (e : Entry) (size : ℕ) (w : Wholes) → (probes_of e < 2 ^ 32 → Good e) →
    (largest_in w < 2 ^ 32 → GoodWholes left w) → largest_in (ahead_whole e size w) < 2 ^ 32 →
    GoodWholes (suc left) (ahead_whole e size w)
unfolding largest_of
good-ahead left e size (reached l used) here there h =
    let small : probes_of e < 2 ^ 32 = omega (arith, le-max_left (probes_of e) (largest_of probes_of l)) in
    let others : largest_of probes_of l < 2 ^ 32 = omega (arith, le-max_right (probes_of e) (largest_of probes_of l)) in
    with_it (there others) (here small)
  where
    with_it : {left : ℕ} {e : Entry} {l : List Entry} {used more : ℕ} → GoodWholes left (reached l used) → Good e →
        GoodWholes (suc left) (reached (e ∷ l) more)
    with_it {e = e} {l = l} (good-reached k gs) g = good-reached {l = e ∷ l} (omega arith) (more g gs)
good-ahead left e size (stopped n p) here there h = good-stopped

good-onward : (left place : ℕ) (rest : ℕ → Wholes) → ((size : ℕ) → largest_in (rest size) < 2 ^ 32 →
    GoodWholes left (rest size)) → (f : Found) → Named f → largest_in (onward_whole place rest f) < 2 ^ 32 →
    GoodWholes (suc left) (onward_whole place rest f)
good-onward left place rest there ended named_end h = good-reached {l = []} (omega arith) none
good-onward left place rest there (bad n) named-bad h = good-stopped
good-onward left place rest there (entry (outcome a) size) (named-outcome e) h =
    good-ahead left (outcome a) size (rest size) (λ p. good-outcome e p) (there size) h
good-onward left place rest there (entry (refusal n) size) (named-refusal e) h =
    good-ahead left (refusal n) size (rest size) (λ p. good-refusal e) (there size) h

pub good-wholes : (left place : ℕ) (s : List ℕ) → largest_in (wholes_from left place s) < 2 ^ 32 →
    GoodWholes left (wholes_from left place s)
unfolding wholes_from found_whole
good-wholes zero place [] h = good-reached {l = []} (omega arith) none
good-wholes zero place (x ∷ s) h = good-stopped
good-wholes (suc left) place s h =
    good-onward left place _ (λ size. good-wholes left (place + 1) (drop size s)) (found_whole s)
    (if-all Named (waits s) named_end (named s)) h

-- ---- a part of bytes

pub drop-bytes : (n : ℕ) (s : List ℕ) → AllBytes s → AllBytes (drop n s)
drop-bytes n s h i = rw (get_or-drop n s i 0) (h (n + i))

take-bytes : (n : ℕ) (s : List ℕ) → AllBytes s → AllBytes (take n s)
take-bytes zero s h i = omega arith
take-bytes (suc n) [] h i = omega arith
take-bytes (suc n) (x ∷ s) h zero = h 0
take-bytes (suc n) (x ∷ s) h (suc i) = take-bytes n s (λ k. h (suc k)) i

abbrev probes_found : Found → ℕ
probes_found ended = 0
probes_found (bad n) = 0
probes_found (entry e size) = probes_of e

word_small : (s : List ℕ) (at : ℕ) → AllBytes s → word_of s at < 2 ^ 32
unfolding word_of
word_small s at h = omega (arith, h at, h (at + 1), h (at + 2), h (at + 3))

reply-small : (size : ℕ) (s : List ℕ) (f : Fault) → AllBytes s →
    probes_found (found_as size (unless_fault said.unreadable f (when eqb (pair_of s 0) outcome_length then said.outcome
    (outcome_in s) else said.refusal (get_or s 3 0 - refused_code)))) < 2 ^ 32
unfolding outcome_in
reply-small size s (fault n) h = omega arith
reply-small size s fine h = if-all (λ (r : Said). probes_found (found_as size r) < 2 ^ 32)
    (eqb (pair_of s 0) outcome_length) (word_small s 14 h) (omega arith)

found-small : (s : List ℕ) → AllBytes s → probes_found (found_in s) < 2 ^ 32
unfolding found_in answer_in
found-small [] h = omega arith
found-small (x ∷ s) h =
    let part = take (size_in (x ∷ s)) (x ∷ s) in
    reply-small (size_in (x ∷ s)) part (answer_fault part) (take-bytes (size_in (x ∷ s)) (x ∷ s) h)

onward-small : (place : ℕ) (rest : ℕ → Wholes) → ((size : ℕ) → largest_in (rest size) < 2 ^ 32) → (f : Found) →
    probes_found f < 2 ^ 32 → largest_in (onward_whole place rest f) < 2 ^ 32
unfolding largest_of
onward-small place rest there ended h = omega arith
onward-small place rest there (bad n) h = omega arith
onward-small place rest there (entry e size) h = largest-ahead e size (rest size) h (there size)

pub bytes_small : (left place : ℕ) (s : List ℕ) → AllBytes s → largest_in (wholes_from left place s) < 2 ^ 32
unfolding wholes_from found_whole largest_of
bytes_small zero place [] h = omega arith
bytes_small zero place (x ∷ s) h = omega arith
bytes_small (suc left) place s h =
    onward-small place _ (λ size. bytes_small left (place + 1) (drop size s) (drop-bytes size s h)) (found_whole s)
    (if-all (λ (f : Found). probes_found f < 2 ^ 32) (waits s) (omega arith) (found-small s h))
