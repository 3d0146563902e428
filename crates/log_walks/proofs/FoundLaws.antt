-- Laws of the record at the start of some bytes: its size, and that it rests on its own bytes alone. Assumes nothing.
use Prim.Native.Nat.{ℕ, ◌+◌, ◌-◌, ◌≤◌, ◌<◌}
use native.Mathlib.Omega.{arith}
use native.Mathlib.Decide.{dec_le}
use mathlib.Core.Path.{◌≡◌, refl, sym, ap, ◌∙◌}
use mathlib.Core.Bool.{Bool, true, false}
use mathlib.Core.List.{List, [], ◌∷◌}
use lib.Dec.{leb}
use lib.ListN.{length, take, drop, length-take, length-drop}
use lib.Seq.{take_all, take-take, take-add, drop_at, get_or-take, length-take-le}
use borrow.Author.Tests.{le-leb, leb-true, leb-false}
use Rattle.arithmetic.specs.Binary32.{when◌then◌else◌}
use Rattle.words.specs.Words.{pair_of}
use Rattle.answer_records.specs.declared.Answer.{Answer}
use Rattle.answer_records.specs.Replies as said
use Rattle.answer_records.specs.Answers.{longest_answer}
use Rattle.answer_records.specs.Replies.{Said, answer_in}
use Rattle.answer_records.proofs.RoundTrips.{outcome-size, refusal-size}
use Rattle.answer_logs.specs.Logs.{Entry, outcome, refusal, Found, ended, bad, entry, found_as, size_in, found_in}
use Rattle.answer_logs.proofs.LogLaws.{found-there}
use Rattle.answer_logs.proofs.CutLaws.{found-overlong}
use Rattle.log_walks.specs.Figures.{size_of}
use Rattle.log_walks.specs.Walks.{own_bytes}

two_bytes : (s : List ℕ) → 2 ≤ size_in s
unfolding size_in
two_bytes s = omega arith

size-taken : (n : ℕ) (s : List ℕ) → 2 ≤ n → size_in (take n s) ≡ size_in s
unfolding size_in pair_of
size-taken n s h = rw (get_or-take n s 0 0 (omega arith), get_or-take n s 1 0 (omega arith))

-- ---- a record that was read

-- it is one of a log, with its size
pub data Sized (s : List ℕ) : Found → Type 0 where
  sized-end : length s ≡ 0 → Sized s ended
  sized-bad : {r : ℕ} → 0 < length s → Sized s (bad r)
  sized-entry : {e : Entry} {size : ℕ} → size ≡ size_of e → size ≡ size_in s → size ≤ length s → Sized s (entry e size)

module _ (s : List ℕ) (there : 0 < length s) where
  taken-size : size_in (take (size_in s) s) ≡ size_in s
  taken-size = size-taken (size_in s) s (two_bytes s)

  sized-reply : (q : Said) → answer_in (take (size_in s) s) ≡ q → Sized s (found_as (size_in s) q)
  unfolding size_in
  sized-reply (said.outcome a) e =
      let z = outcome-size (take (size_in s) s) a e in
      sized-entry {e = outcome a} {size = size_in s} (omega (arith, taken-size)) refl
      (omega (arith, taken-size, length-take (size_in s) s))
  sized-reply (said.refusal n) e =
      let z = refusal-size (take (size_in s) s) n e in
      sized-entry {e = refusal n} {size = size_in s} (omega (arith, taken-size)) refl
      (omega (arith, taken-size, length-take (size_in s) s))
  sized-reply (said.unreadable n) e = sized-bad there

pub sized : (s : List ℕ) → Sized s (found_in s)
unfolding found_in
sized [] = sized-end refl
sized (x ∷ s) = sized-reply (x ∷ s) (omega arith) (answer_in (take (size_in (x ∷ s)) (x ∷ s))) refl

entry_of : (s : List ℕ) (f : Found) → Sized s f → (e : Entry) (size : ℕ) → f ≡ entry e size →
    (size ≡ size_of e) × (size ≡ size_in s) × (size ≤ length s)
entry_of s ended t e size p = absurd (let z : ◌≡◌ {A = ℕ} 0 1 = cc in omega arith)
entry_of s (bad r) t e size p = absurd (let z : ◌≡◌ {A = ℕ} 0 1 = cc in omega arith)
entry_of s (entry e' size') (sized-entry a b c) e size p =
    let f : e' ≡ e = cc in
    let g : size' ≡ size = cc in
    (rw (← f, ← g) a, rw (← g) b, rw (← g) c)

-- a record that was found has its size, which it names, and lies within the bytes
pub entry_found : (s : List ℕ) (e : Entry) (size : ℕ) → found_in s ≡ entry e size → (size ≡ size_of e) × (size ≡ size_in s)
    × (size ≤ length s)
entry_found s e size p = entry_of s (found_in s) (sized s) e size p

pub size-within : (e : Entry) → (4 ≤ size_of e) × (size_of e ≤ longest_answer)
size-within (outcome a) = (omega arith, omega arith)
size-within (refusal n) = (omega arith, omega arith)

-- ---- bytes that are one record

module _ (s : List ℕ) where
  whole-record : (q : Said) → answer_in s ≡ q → 0 < length s → length s ≡ size_in s → found_in s ≡ found_as (length s) q
  whole-record q e h l =
      found-there s h ∙ ap (λ (n : ℕ). found_as n (answer_in (take n s))) (sym l)
      ∙ ap (λ (t : List ℕ). found_as (length s) (answer_in t)) (take_all (length s) s (omega arith)) ∙ ap (found_as (length s)) e

  pub one-outcome : (a : Answer) → answer_in s ≡ said.outcome a → (found_in s ≡ entry (outcome a) 18) × (length s ≡ 18)
  unfolding size_in
  one-outcome a e =
      let z = outcome-size s a e in
      (whole-record (said.outcome a) e (omega arith) (omega arith) ∙ ap (λ (n : ℕ). entry (outcome a) n) z.1, z.1)

  pub one-refusal : (n : ℕ) → answer_in s ≡ said.refusal n → (found_in s ≡ entry (refusal n) 4) × (length s ≡ 4)
  unfolding size_in
  one-refusal n e =
      let z = refusal-size s n e in
      (whole-record (said.refusal n) e (omega arith) (omega arith) ∙ ap (λ (k : ℕ). entry (refusal n) k) z.1, z.1)

-- ---- bytes that go on alike

-- both have these bytes
module _ (k : ℕ) (s t : List ℕ) (same : take k s ≡ take k t) (long : k ≤ length s) where
  longer : k ≤ length t
  longer = omega (arith, ap length same, length-take k s, length-take k t)

  same_size : 2 ≤ k → size_in s ≡ size_in t
  same_size h = sym (size-taken k s h) ∙ ap size_in same ∙ size-taken k t h

  pub same_start : size_in s ≤ k → found_in s ≡ found_in t
  same_start h =
      let two = two_bytes s in
      let n = size_in s in
      found-there s (omega arith)
      ∙ ap (λ (x : List ℕ). found_as n (answer_in x)) (sym (take-take n k s h) ∙ ap (take n) same ∙ take-take n k t h)
      ∙ ap (λ (m : ℕ). found_as m (answer_in (take m t))) (same_size (omega arith))
      ∙ sym (found-there t (omega (arith, longer)))

  same-overlong : longest_answer < size_in s → longest_answer ≤ k → found_in s ≡ found_in t
  same-overlong h l =
      found-overlong s (omega arith) h ∙ sym (found-overlong t (omega (arith, longer)) (omega (arith, same_size (omega arith))))

  same-own : (b : Bool) → leb (size_in s) longest_answer ≡ b → (when b then size_in s else longest_answer) ≤ k → found_in s ≡ found_in t
  unfolding when◌then◌else◌
  same-own true e h = same_start h
  same-own false e h = same-overlong (leb-false (size_in s) longest_answer e) h

-- s and t agree in their first k bytes, and where s ends there, t does too
pub record Alike (k : ℕ) (s t : List ℕ) : Type 0 where
  pub bytes : take k s ≡ take k t
  pub ends : length s ≤ k → length t ≤ k

module _ (k : ℕ) (s t : List ℕ) (a : Alike k s t) where
  -- bytes that end there are the same
  alike-ended : length s ≤ k → s ≡ t
  alike-ended h = sym (take_all k s h) ∙ a.bytes ∙ take_all k t (a.ends h)

  -- what is found rests on its own bytes
  pub found_alike : own_bytes s ≤ k → found_in s ≡ found_in t
  unfolding own_bytes
  found_alike h = go (dec_le (length s) k)
    where
      go : Dec (length s ≤ k) → found_in s ≡ found_in t
      go (yes p) = ap found_in (alike-ended p)
      go (no p) = same-own k s t a.bytes (omega arith) (leb (size_in s) longest_answer) refl h

  -- where s ends at once, t does too
  pub end-alike : length s ≡ 0 → s ≡ t
  end-alike h = alike-ended (omega arith)

-- a record's own bytes are its size
pub own-entry : (s : List ℕ) (e : Entry) (size : ℕ) → found_in s ≡ entry e size → own_bytes s ≡ size
unfolding own_bytes when◌then◌else◌
own-entry s e size p =
    let z = entry_found s e size p in
    let w = size-within e in
    rw (le-leb (size_in s) longest_answer (omega arith)) (sym z.1)

-- what lies behind n bytes goes on alike
pub behind-alike : (n k : ℕ) (s t : List ℕ) → n ≤ length s → n ≤ k → Alike k s t → Alike (k - n) (drop n s) (drop n t)
behind-alike n k s t h f a =
    let whole : n + (k - n) ≡ k = omega arith in
    let all : take (n + (k - n)) s ≡ take (n + (k - n)) t = rw whole a.bytes in
    let there : n ≤ length t = omega (arith, ap length a.bytes, length-take k s, length-take k t) in
    record {
      bytes = sym (drop_at (take n s) (take (k - n) (drop n s)) n (length-take-le n s h))
          ∙ ap (drop n) (sym (take-add n (k - n) s) ∙ all ∙ take-add n (k - n) t)
          ∙ drop_at (take n t) (take (k - n) (drop n t)) n (length-take-le n t there);
      ends = λ e. let m : length t ≤ k = a.ends (omega (arith, length-drop n s, e)) in omega (arith, length-drop n t);
    }

pub own-most : (s : List ℕ) → own_bytes s ≤ longest_answer
unfolding own_bytes when◌then◌else◌
own-most s = go (leb (size_in s) longest_answer) refl
  where
    go : (b : Bool) → leb (size_in s) longest_answer ≡ b → (when b then size_in s else longest_answer) ≤ longest_answer
    go true e = leb-true (size_in s) longest_answer e
    go false e = omega arith
