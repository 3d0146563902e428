-- Laws of the cuts: the parts that the code hands over are those of the definitions. Assumes nothing.
use Prim.Native.Nat.{ℕ, ◌+◌, ◌-◌, ◌*◌, ◌%◌, ◌≤◌, min}
use native.Mathlib.Omega.{arith}
use native.Mathlib.Decide.{dec_le}
use native.Mathlib.Nat.{zero-add, min-eq_left, min-eq_right}
use mathlib.Core.Path.{◌≡◌, sym, ap, ◌∙◌}
use mathlib.Core.List.{List}
use lib.Dec.{leb}
use lib.ListN.{length, take, drop, length-drop, drop_of_length-le}
use lib.Seq.{take_all}
use borrow.Author.Tests.{le-leb, lt-leb}
use Rattle.std.specs.Prelude.{Err}
use Rattle.arithmetic.specs.Binary32.{when◌then◌else◌}
use Rattle.words.specs.Words.{word_of}
use Rattle.admission.specs.Faults.{fine, fault, ◌⊳◌}
use Rattle.log_walks.specs.Walks.{Met}
use Rattle.fallback_index.specs.Questions.{named_log, named_count, head_fault, places_fault, before, between, head_in, entry_in, stretch_in, question_of, question_in}
use Rattle.fallback_index.specs.Appends.{update_of, update_in}
use Rattle.index_building.specs.Indexes.{entry_place}
use Rattle.fallback_index.specs.Parts.{up_to}

module _ (all at : ℕ) where
  pub up-there : at ≤ all → at ≡ up_to all at
  unfolding up_to when◌then◌else◌
  up-there h = rw (le-leb at all h)

  pub up-past : all ≤ at → all ≡ up_to all at
  unfolding up_to when◌then◌else◌
  up-past h = go (dec_le at all)
    where
      go : Dec (at ≤ all) → all ≡ (when leb at all then at else all)
      go (yes p) = let e : all ≡ at = omega arith in rw (le-leb at all p) e
      go (no p) = rw (lt-leb at all (omega arith))

-- bytes from x to y are k bytes from place p on, or what there is
pub record Cut (s : List ℕ) (p k x y : ℕ) : Type 0 where
  pub starts : x ≡ up_to (length s) p
  pub ends : y ≡ up_to (length s) (x + k)

-- by what the code's steps answer
pub cut_by : {s : List ℕ} {p q k m x y : ℕ} → q ≡ p → m ≡ k → x ≡ up_to (length s) q → y ≡ up_to (length s) (x + m) → Cut s p k x y
cut_by {s} {x = x} e f g h = record { starts = g ∙ ap (up_to (length s)) e; ends = h ∙ ap (λ (z : ℕ). up_to (length s) (x + z)) f }

pub cut : {s : List ℕ} {p k x y : ℕ} → Cut s p k x y → take (y - x) (drop x s) ≡ take k (drop p s)
cut {s} {p} {k} {x} {y} c = go (dec_le p (length s)) (dec_le (x + k) (length s))
  where
    go : Dec (p ≤ length s) → Dec (x + k ≤ length s) → take (y - x) (drop x s) ≡ take k (drop p s)
    go (yes h) (yes g) =
        let e : x ≡ p = c.starts ∙ sym (up-there (length s) p h) in
        let f : y - x ≡ k = omega (arith, c.ends ∙ sym (up-there (length s) (x + k) g)) in
        ap (λ (n : ℕ). take n (drop x s)) f ∙ ap (λ (n : ℕ). take k (drop n s)) e
    go (yes h) (no g) =
        let e : x ≡ p = c.starts ∙ sym (up-there (length s) p h) in
        let f : y ≡ length s = c.ends ∙ sym (up-past (length s) (x + k) (omega arith)) in
        take_all (y - x) (drop x s) (omega (arith, length-drop x s))
        ∙ sym (take_all k (drop x s) (omega (arith, length-drop x s))) ∙ ap (λ (n : ℕ). take k (drop n s)) e
    go (no h) d =
        let e : x ≡ length s = c.starts ∙ sym (up-past (length s) p (omega arith)) in
        let some : length s ≤ x = omega arith in
        let more : length s ≤ p = omega arith in
        take_all (y - x) (drop x s) (omega (arith, length-drop x s)) ∙ drop_of_length-le s some
        ∙ sym (drop_of_length-le s more) ∙ sym (take_all k (drop p s) (omega (arith, length-drop p s)))

pub cut-head : (s : List ℕ) (k x : ℕ) → x ≡ up_to (length s) k → take (x - 0) (drop 0 s) ≡ take k s
cut-head s k x e = cut {s = s} {p = 0} {k = k} {x = 0} {y =
    x} (record { starts = up-there (length s) 0 (omega arith); ends = e ∙ ap (up_to (length s)) (sym (zero-add k)) })

-- the smaller of the two
pub up-min : (all at : ℕ) → min at all ≡ up_to all at
up-min all at = go (dec_le at all)
  where
    go : Dec (at ≤ all) → min at all ≡ up_to all at
    go (yes h) = min-eq_left h ∙ up-there all at h
    go (no h) = let past : all ≤ at = omega arith in min-eq_right past ∙ up-past all at (omega arith)

pub up-sum : (all at count : ℕ) → at ≤ all → at + min count (all - at) ≡ up_to all (at + count)
up-sum all at count h = go (dec_le count (all - at))
  where
    go : Dec (count ≤ all - at) → at + min count (all - at) ≡ up_to all (at + count)
    go (yes k) = ap (λ (n : ℕ). at + n) (min-eq_left k) ∙ up-there all (at + count) (omega arith)
    go (no k) =
        let past : all - at ≤ count = omega arith in
        let whole : at + (all - at) ≡ all = omega arith in
        ap (λ (n : ℕ). at + n) (min-eq_right past) ∙ whole ∙ up-past all (at + count) (omega arith)

module _ (log index : List ℕ) (head : ℕ) (of-head : head ≡ up_to (length index) 13) where
  head-cut : take (head - 0) (drop 0 index) ≡ head_in index
  unfolding head_in
  head-cut = cut-head index 13 head of-head

  module _ (a at to from past : ℕ) (e : Cut index (entry_place a) 8 at to)
      (t : Cut log (word_of (take (to - at) (drop at index)) 0) (18 * (a % 64)) from past) where
    entry-cut : take (to - at) (drop at index) ≡ entry_in index a
    unfolding entry_in
    entry-cut = cut e

    stretch-cut : take (past - from) (drop from log) ≡ stretch_in log (entry_in index a) a
    unfolding stretch_in
    stretch-cut = cut t ∙ ap (λ (x : List ℕ). take (18 * (a % 64)) (drop (word_of x 0) log)) entry-cut

  pub question-cut : (a b : ℕ) {at_a to_a from_a past_a at_b to_b from_b past_b : ℕ} →
      Cut index (entry_place a) 8 at_a to_a → Cut log (word_of (take (to_a - at_a) (drop at_a index)) 0) (18 * (a % 64)) from_a past_a →
      Cut index (entry_place b) 8 at_b to_b → Cut log (word_of (take (to_b - at_b) (drop at_b index)) 0) (18 * (b % 64)) from_b past_b →
      question_of (length log) (length index) (take (head - 0) (drop 0 index)) (take (to_a - at_a) (drop at_a index))
      (take (to_b - at_b) (drop at_b index))
      (take (past_a - from_a) (drop from_a log)) (take (past_b - from_b) (drop from_b log)) a b ≡ question_in log index a b
  unfolding question_in
  question-cut a b {at_a} {to_a} {from_a} {past_a} {at_b} {to_b} {from_b} {past_b} ea ta eb tb =
      rw (
        head-cut,
        stretch-cut a at_a to_a from_a past_a ea ta,
        stretch-cut b at_b to_b from_b past_b eb tb,
        entry-cut a at_a to_a from_a past_a ea ta,
        entry-cut b at_b to_b from_b past_b eb tb,
      )

  pub update-cut : (most : ℕ) (new : List ℕ) (count : ℕ) {first at to from past : ℕ} →
      count ≡ word_of (take (head - 0) (drop 0 index)) 9 →
      first ≡ up_to (length index) (head + 8) → Cut index (entry_place count) 8 at to →
      Cut log (word_of (take (to - at) (drop at index)) 0) (18 * (count % 64)) from past →
      update_of most (length log) (length index) (take (head - 0) (drop 0 index)) (take (first - head) (drop head index))
      (take (to - at) (drop at index)) (take (past - from) (drop from log)) new
      ≡ update_in most log index new
  unfolding update_in entry_in
  update-cut most new count {first} {at} {to} {from} {past} named f e t =
      let c : count ≡ named_count (head_in index) = named ∙ ap (λ (x : List ℕ). word_of x 9) head-cut in
      let zero-entry : take (first - head) (drop head index) ≡ entry_in index 0 = first-cut first f in
      rw (head-cut, zero-entry, stretch-cut count at to from past e t, entry-cut count at to from past e t, c)
    where
      first-cut : (first : ℕ) → first ≡ up_to (length index) (head + 8) → take (first - head) (drop head index)
          ≡ take 8 (drop 13 index)
      first-cut first f = cut {s = index} {p = 13} {k = 8} {x = head} {y = first} (record { starts = of-head; ends = f })

-- ---- the question of the parts, in the code's steps

module _ (total n : ℕ) (h entry_a entry_b stretch_a stretch_b : List ℕ) (a b x y : ℕ) (of-a : x ≡ word_of entry_a 0) (of-b : y
    ≡ word_of entry_b 0) where
  pub parts-refused : (r : ℕ) → fault r ≡ (head_fault n h ⊳ places_fault total (named_log h) (named_count h) x y a b) →
      Err r ≡ question_of total n h entry_a entry_b stretch_a stretch_b a b
  unfolding question_of
  parts-refused r e = rw (← of-a, ← of-b, ← e)

  pub parts-counted : fine ≡ (head_fault n h ⊳ places_fault total (named_log h) (named_count h) x y a b) → {p q : Met} →
      p ≡ before (a % 64) entry_a stretch_a → q ≡ before (b % 64) entry_b stretch_b →
      between p q ≡ question_of total n h entry_a entry_b stretch_a stretch_b a b
  unfolding question_of
  parts-counted e f g = rw (← of-a, ← of-b, ← e, f, g)
