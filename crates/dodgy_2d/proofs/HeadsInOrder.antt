-- A scene's obstacles in order: what a loop over them has left, and what their faults say of each. Assumes nothing.
use Prim.Native.Nat.{ℕ, zero, suc, ◌+◌, ◌*◌, ◌≤◌, ◌<◌}
use mathlib.Core.Path.{◌≡◌, refl, sym, ap, ◌∙◌}
use mathlib.Core.List.{List, [], ◌∷◌}
use native.Mathlib.Omega.{arith}
use lib.ListN.{length, take, drop, get_or, length-drop}
use lib.Seq.{drop-drop}
use Rattle.std.specs.Prelude.{sum}
use Rattle.std.proofs.lemmas.List.Sums.{sum_by-cons}
use lib.Ieee.{Float}
use Rattle.admission.specs.declared.Head.{Head}
use Rattle.admission.specs.Faults.{Fault, fine, fault, ◌⊳◌}
use Rattle.admission.specs.Heads.{head_of}
use Rattle.admission.proofs.FaultLaws.{⊳-fine, ⊳-assoc}
use Rattle.lines.proofs.Fold.{left-next, left-none}
use Rattle.obstacles.specs.ObstacleFaults.{head_fault, outline_fault}
use Rattle.obstacles.proofs.ObstacleFaults.{head-room, outline-lent}
use Rattle.dodgy_2d.specs.Scenes.{heads_of, obstacles_fault}
use Rattle.dodgy_2d.specs.Admitted.{vertex_count}

-- ---- the heads from the i-th up to the n-th

abbrev pub heads_from : List ℕ → List ℕ → ℕ → ℕ → List Head
heads_from ks cs n i = heads_of (drop i (take n ks)) (drop i (take n cs))

module _ (ks cs : List ℕ) (n i : ℕ) (kinds : n ≤ length ks) (counts : n ≤ length cs) where
  pub heads-next : i < n → heads_from ks cs n i ≡ head_of (get_or ks i 0) (get_or cs i 0) ∷ heads_from ks cs n (i + 1)
  unfolding heads_of
  heads-next h = rw (left-next ks n i kinds 0 h, left-next cs n i counts 0 h)

  pub heads-none : n ≤ i → heads_from ks cs n i ≡ []
  unfolding heads_of
  heads-none h = rw (left-none ks n i kinds h)

  -- their vertices: those of the i-th, and those behind it
  pub count_next : i < n → vertex_count (heads_from ks cs n i) ≡ get_or cs i 0 + vertex_count (heads_from ks cs n (i + 1))
  unfolding vertex_count
  count_next h = rw (heads-next h)

  -- behind `offset` vertices of those before it
  pub own-left : (offset : ℕ) → i < n →
      offset + vertex_count (heads_from ks cs n i) ≡ vertex_count (heads_from ks cs n 0) →
      (offset + get_or cs i 0) + vertex_count (heads_from ks cs n (i + 1)) ≡ vertex_count (heads_from ks cs n 0)
  own-left offset h e = omega (arith, count_next h, e)

-- those of the first n obstacles are what their counts say
pub vertices_sum : (ks cs : List ℕ) (n : ℕ) → length ks ≡ length cs → vertex_count (heads_of (take n ks) (take n cs)) ≡ sum (take n cs)
unfolding vertex_count heads_of
vertices_sum ks cs zero same = refl
vertices_sum [] [] (suc n) same = refl
vertices_sum [] (c ∷ cs) (suc n) same = absurd (omega arith)
vertices_sum (k ∷ ks) [] (suc n) same = absurd (omega arith)
vertices_sum (k ∷ ks) (c ∷ cs) (suc n) same =
    ap (λ (m : ℕ). c + m) (vertices_sum ks cs n (omega arith)) ∙ sym (sum_by-cons (λ (m : ℕ). m) c (take n cs))

-- ---- one obstacle of several, behind `total` vertices

behind : (total count : ℕ) (v : List Float) → drop (2 * count) (drop (2 * total) v) ≡ drop (2 * (total + count)) v
behind total count v =
    let e : 2 * total + 2 * count ≡ 2 * (total + count) = omega arith in
    drop-drop (2 * count) (2 * total) v ∙ ap (λ (i : ℕ). drop i v) e

module _ (ks cs : List ℕ) (n i : ℕ) (kinds : n ≤ length ks) (counts : n ≤ length cs) (total : ℕ) (v : List Float) where
  abbrev own : Head
  own = head_of (get_or ks i 0) (get_or cs i 0)

  abbrev pub own_fault : Fault
  own_fault = head_fault total own ⊳ outline_fault own (drop (2 * total) v)

  abbrev left : Fault
  left = obstacles_fault total (heads_from ks cs n i) (drop (2 * total) v)

  abbrev later : Fault
  later = obstacles_fault (total + own.count) (heads_from ks cs n (i + 1)) (drop (2 * (total + own.count)) v)

  one_more : i < n → left ≡ (own_fault ⊳ later)
  unfolding obstacles_fault
  one_more h = rw (heads-next ks cs n i kinds counts h, ← behind total own.count v)
      (⊳-assoc (head_fault total own) (outline_fault own (drop (2 * total) v)) _)

  pub obstacle-on : i < n → fine ≡ own_fault → left ≡ later
  obstacle-on h e = one_more h ∙ rw (← e)

  pub obstacle-stop : (r : ℕ) → i < n → fault r ≡ own_fault → left ≡ fault r
  obstacle-stop r h e = one_more h ∙ rw (← e)

  pub obstacles-done : n ≤ i → left ≡ fine
  unfolding obstacles_fault
  obstacles-done h = rw (heads-none ks cs n i kinds counts h)

  -- an obstacle that passes leaves room for its vertices
  pub own_room : fine ≡ own_fault → (own.count ≤ 64) × (total + own.count ≤ 192)
  own_room e = head-room total own (⊳-fine (head_fault total own) (sym e)).0

-- obstacles without a fault have room for all their vertices, and these are there
pub all_room : (total : ℕ) (hs : List Head) (xs : List Float) → total ≤ 192 → obstacles_fault total hs xs ≡ fine →
    (total + vertex_count hs ≤ 192) × (2 * vertex_count hs ≤ length xs)
unfolding obstacles_fault vertex_count
all_room total [] xs few e = (omega arith, omega arith)
all_room total (h ∷ hs) xs few e =
    let a = ⊳-fine (head_fault total h) e in
    let b = ⊳-fine (outline_fault h xs) a.1 in
    let there = outline-lent h xs b.0 in
    let rest = all_room (total + h.count) hs (drop (2 * h.count) xs) (head-room total h a.0).1 b.1 in
    (omega (arith, rest.0), omega (arith, rest.1, there, length-drop (2 * h.count) xs))
