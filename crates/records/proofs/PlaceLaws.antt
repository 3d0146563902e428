-- What is read rests on the bytes that are read: records of one length that agree in these are read alike. Assumes nothing.
use Prim.Native.Nat.{ℕ, zero, suc, ◌+◌, ◌≤◌, ◌<◌}
use mathlib.Core.Path.{◌≡◌, refl, sym, ap, ◌∙◌}
use mathlib.Core.Bool.{Bool, true, false, not}
use mathlib.Core.List.{List}
use native.Mathlib.Omega.{arith}
use lib.Dec.{leb}
use lib.ListN.{length, take, drop, get_or, length-take, length-drop}
use lib.Seq.{ext_get_or, get_or-take, get_or-drop}
use lib.Ieee.{Float, binary32, of_bits}
use Rattle.arithmetic.specs.Binary32.{0ᶠ, finite}
use Rattle.admission.specs.declared.Head.{Head}
use Rattle.admission.specs.Faults.{within, inside}
use Rattle.admission.specs.Heads.{is_kind, room_for, is_empty_open}
use Rattle.common.specs.Vectors.{reach, longest, length_squared_of}
use Rattle.lines.specs.LineFaults.{line_reach, band_low, band_high}
use Rattle.edges.specs.Edges.{OuterVertex, shortest_horizon, longest_horizon}
use Rattle.obstacles.specs.Doubled.{follows, none_before, on_vertex, closes}
use Rattle.fields.specs.Bytes.{big_endian_number}
use Rattle.fields.specs.Got.{Got, refused, got, then, guard, word, many}
use Rattle.scene_records.specs.Steps.{number, vector, count}
use Rattle.scene_records.specs.Parts.{cart, head, vertex, vertices_at, outline, size_of, obstacle, obstacles, neighbour}

-- ---- a part of the bytes

pub part_same : (s t : List ℕ) (at w : ℕ) → length s ≡ length t → ((i : ℕ) → i < w → get_or s (at + i) 0 ≡ get_or t (at + i) 0) →
    take w (drop at s) ≡ take w (drop at t)
part_same s t at w long same =
    let few : length (take w (drop at s)) ≤ w = rw length-take (omega arith) in
    ext_get_or 0 (take w (drop at s)) (take w (drop at t)) (length-take w (drop at s)
    ∙ rw (length-drop at s, long, ← length-drop at t) (sym (length-take w (drop at t)))) (λ i h.
    let k : i < w = omega arith in
    rw (get_or-take w (drop at s) i 0 k, get_or-drop at s i 0, get_or-take w (drop at t) i 0 k, get_or-drop at t i 0) (same i k))

-- a number of w bytes
pub word_same : (s t : List ℕ) (w at : ℕ) → length s ≡ length t → ((i : ℕ) → i < w → get_or s (at + i) 0 ≡ get_or t (at + i) 0) →
    word w s at ≡ word w t at
unfolding word
word_same s t w at long same = rw (part_same s t at w long same, long)

-- ---- steps that end at a place up to which the bytes agree

-- where the first gives a value and a place up to `most`, the other gives the same
pub data Kept {A : Type 0} (most at : ℕ) : Got A → Got A → Type 0 where
  kept-refused : {r : ℕ} {g : Got A} → Kept most at (refused r) g
  kept-got : {a : A} {m : ℕ} {g : Got A} → at ≤ m → (m ≤ most → g ≡ got a m) → Kept most at (got a m) g

pub kept-told : {A : Type 0} {most at : ℕ} {g h : Got A} {a : A} {m : ℕ} → Kept most at g h → g ≡ got a m →
    (at ≤ m) × (m ≤ most → h ≡ got a m)
kept-told k e = told (rw e at k)
  where
    told : {A : Type 0} {most at : ℕ} {h : Got A} {a : A} {m : ℕ} → Kept most at (got a m) h → (at ≤ m) × (m ≤ most → h ≡ got a m)
    told (kept-got le f) = (le, f)

module _ {B : Type 0} {most at : ℕ} where
  onward : {m : ℕ} {g h k : Got B} → at ≤ m → Kept most m g k → (m ≤ most → h ≡ k) → Kept most at g h
  onward le kept-refused e = kept-refused
  onward {m} le (kept-got {a} {m = n} more f) e = kept-got {a = a} {m = n} (omega arith) (λ within. e (omega arith) ∙ f within)

  pub then-kept : {A : Type 0} {g h : Got A} (f k : A → ℕ → Got B) → Kept most at g h →
      ((a : A) (m : ℕ) → Kept most m (f a m) (k a m)) → Kept most at (then g f) (then h k)
  then-kept f k kept-refused next = kept-refused
  then-kept {A} f k (kept-got {a} {m} le e) next = onward le (next a m) (λ within. ap (λ (x : Got A). then x k) (e within))

module _ {A : Type 0} {most at : ℕ} where
  pub guard-kept : (b : Bool) (r : ℕ) {g h : Got A} → Kept most at g h → Kept most at (guard b r g) (guard b r h)
  guard-kept true r k = k
  guard-kept false r k = kept-refused

  pub given : {a : A} → Kept most at (got a at) (got a at)
  given = kept-got {m = at} (omega arith) (λ within. refl)

pub many-kept : {A S : Type 0} {most : ℕ} (one two : S → ℕ → Got A) (on : S → A → S) →
    ((state : S) (at : ℕ) → Kept most at (one state at) (two state at)) →
    (n : ℕ) (state : S) (at : ℕ) → Kept most at (many one on n state at) (many two on n state at)
unfolding many
many-kept one two on step zero state at = given
many-kept one two on step (suc n) state at =
    then-kept _ _ (step state at) λ a m. then-kept _ _ (many-kept one two on step n (on state a) m) λ rest k. given

-- the fields of a record before its neighbours
module _ (s t : List ℕ) (long : length s ≡ length t) (most : ℕ) (same : (i : ℕ) → i < most → get_or s i 0 ≡ get_or t i 0) where
  word_kept : (w at : ℕ) → Kept most at (word w s at) (word w t at)
  unfolding word
  word_kept w at = rw (← long) (guard-kept (leb (at + w) (length s)) 2 (kept-got (omega arith) (λ within.
      ap (λ (l : List ℕ). got (big_endian_number l) (at + w))
      (sym (part_same s t at w long (λ i h. same (at + i) (omega arith)))))))

  number-kept : (passes : Float → Bool) (at : ℕ) → Kept most at (number passes s at) (number passes t at)
  unfolding number
  number-kept passes at = then-kept _ _ (word_kept 4 at) λ b a. guard-kept (passes (of_bits binary32 b)) 6 given

  vector-kept : (passes : Float → Bool) (at : ℕ) → Kept most at (vector passes s at) (vector passes t at)
  unfolding vector
  vector-kept passes at = then-kept _ _ (number-kept passes at) λ x a. then-kept _ _ (number-kept passes a) λ y b. given

  pub cart-kept : (at : ℕ) → Kept most at (cart s at) (cart t at)
  unfolding cart
  cart-kept at =
      then-kept _ _ (vector-kept (within reach) at) λ p a.
      then-kept _ _ (vector-kept (within reach) a) λ v b.
      then-kept _ _ (number-kept (inside 0ᶠ longest) b) λ m c.
      then-kept _ _ (number-kept (inside shortest_horizon longest_horizon) c) λ h d.
      then-kept _ _ (vector-kept (within reach) d) λ w e.
      then-kept _ _ (number-kept (inside 0ᶠ longest) e) λ l f.
      given

  pub count_kept : (limit at : ℕ) → Kept most at (count limit s at) (count limit t at)
  unfolding count
  count_kept limit at = then-kept _ _ (word_kept 1 at) λ n a. guard-kept (leb n limit) 4 given

  head-kept : (total at : ℕ) → Kept most at (head s total at) (head t total at)
  unfolding head
  head-kept total at =
      then-kept _ _ (word_kept 1 at) λ k a.
      guard-kept (is_kind k) 3 (then-kept _ _ (word_kept 1 a) λ c b.
      guard-kept (room_for total c) 4 (guard-kept (not (is_empty_open k c)) 5 given))

  vertex-kept : (before : OuterVertex) (at : ℕ) → Kept most at (vertex s before at) (vertex t before at)
  unfolding vertex
  vertex-kept before at = then-kept _ _ (vector-kept (within reach) at) λ v a. guard-kept (follows before v) 14 given

  outline-kept : (h : Head) (at : ℕ) → Kept most at (outline s h at) (outline t h at)
  unfolding outline vertices_at
  outline-kept h at = then-kept _ _ (many-kept (vertex s) (vertex t) on_vertex vertex-kept h.count none_before at) λ vs
      b. guard-kept (closes h.kind vs) 14 given

  obstacle-kept : (total at : ℕ) → Kept most at (obstacle s total at) (obstacle t total at)
  unfolding obstacle
  obstacle-kept total at = then-kept _ _ (head-kept total at) λ h a. then-kept _ _ (outline-kept h a) λ vs b. given

  pub obstacles-kept : (n total at : ℕ) → Kept most at (obstacles s n total at) (obstacles t n total at)
  unfolding obstacles
  obstacles-kept n total at = many-kept (obstacle s) (obstacle t) (λ t o. t + size_of o) obstacle-kept n total at

-- ---- steps that end at a known place, their values alike

-- both are refused with one number, or both end at the place m, with values that R relates
pub data Both {A : Type 0} (R : A → A → Type 0) (m : ℕ) : Got A → Got A → Type 0 where
  both-refused : {r : ℕ} → Both R m (refused r) (refused r)
  both-got : {a b : A} → R a b → Both R m (got a m) (got b m)

abbrev pub Equal : {A : Type 0} → A → A → Type 0
Equal a b = a ≡ b

module _ {A : Type 0} {R : A → A → Type 0} {m : ℕ} where
  pub guard-both : (b : Bool) (r : ℕ) {g h : Got A} → Both R m g h → Both R m (guard b r g) (guard b r h)
  guard-both true r k = k
  guard-both false r k = both-refused

module _ {A B : Type 0} {R : A → A → Type 0} {Q : B → B → Type 0} {m n : ℕ} where
  pub then-both : {g h : Got A} (f k : A → ℕ → Got B) → Both R m g h → ((a b : A) → R a b → Both Q n (f a m) (k b m)) →
      Both Q n (then g f) (then h k)
  then-both f k both-refused next = both-refused
  then-both f k (both-got {a} {b} e) next = next a b e

module _ {A B : Type 0} {Q : B → B → Type 0} {m n : ℕ} where
  pub then_equal : {g h : Got A} (f k : A → ℕ → Got B) → Both Equal m g h → ((a : A) → Both Q n (f a m) (k a m)) →
      Both Q n (then g f) (then h k)
  then_equal f k both next = then-both f k both (λ a b e. rw (← e) (next a))

-- ---- a neighbour's line, sixteen bytes from a place on

module _ (s t : List ℕ) (long : length s ≡ length t) where
  abbrev pub SameFrom : ℕ → ℕ → Type 0
  SameFrom at w = (i : ℕ) → i < w → get_or s (at + i) 0 ≡ get_or t (at + i) 0

  -- the same a few bytes on
  later : (at w n v : ℕ) → n + v ≤ w → SameFrom at w → SameFrom (at + n) v
  later at w n v h same i below =
      let e : at + n + i ≡ at + (n + i) = omega arith in
      rw e (same (n + i) (omega arith))

  -- whatever stands there
  pub word-there : (w at : ℕ) → Both (λ (a b : ℕ). Unit {0}) (at + w) (word w s at) (word w t at)
  unfolding word
  word-there w at = rw (← long) (guard-both (leb (at + w) (length s)) 2 (both-got tt))

  pub word-both : (w at : ℕ) → SameFrom at w → Both Equal (at + w) (word w s at) (word w t at)
  unfolding word
  word-both w at same = rw (← long, ← part_same s t at w long same) (guard-both (leb (at + w) (length s)) 2 (both-got refl))

  number-both : (passes : Float → Bool) (at : ℕ) → SameFrom at 4 → Both Equal (at + 4) (number passes s at) (number passes t at)
  unfolding number
  number-both passes at same = then_equal _ _ (word-both 4 at same) λ b. guard-both (passes (of_bits binary32 b)) 6 (both-got refl)

  vector-both : (passes : Float → Bool) (at : ℕ) → SameFrom at 8 → Both Equal (at + 8) (vector passes s at) (vector passes t at)
  unfolding vector
  vector-both passes at same =
      let e : at + 4 + 4 ≡ at + 8 = omega arith in
      then_equal _ _ (number-both passes at (λ i h. same i (omega arith))) λ x.
      then_equal _ _ (rw e at (number-both passes (at + 4) (later at 8 4 4 (omega arith) same))) λ y. both-got refl

  pub neighbour-both : (at : ℕ) → SameFrom at 16 → Both Equal (at + 16) (neighbour s at) (neighbour t at)
  unfolding neighbour
  neighbour-both at same =
      let e : at + 8 + 8 ≡ at + 16 = omega arith in
      then_equal _ _ (vector-both (within line_reach) at (λ i h. same i (omega arith))) λ p.
      then_equal _ _ (rw e at (vector-both finite (at + 8) (later at 16 8 8 (omega arith) same))) λ d.
      guard-both (inside band_low band_high (length_squared_of d)) 7 (both-got refl)
