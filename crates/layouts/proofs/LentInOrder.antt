-- Lent obstacles in order: what stands at a place of a list, and what a walk over obstacles has left. Assumes nothing.
use Prim.Native.Nat.{ℕ, suc, ◌+◌, ◌-◌, ◌*◌, ◌/◌, ◌≤◌, ◌<◌}
use native.Mathlib.Omega.{arith}
use native.Mathlib.Nat.{add-zero}
use mathlib.Core.Path.{◌≡◌, refl, sym, ap, ◌∙◌}
use mathlib.Core.Bool.{Bool, true, false, not}
use mathlib.Core.List.{List, [], ◌∷◌}
use lib.Dec.{leb}
use lib.ListN.{length, drop, get_or, length-drop, drop_of_length-le}
use lib.Seq.{drop-cons, drop-drop, get_or-drop}
use lib.Ieee.{Float}
use borrow.Author.Tests.{le-leb, lt-leb, leb-true, leb-false}
use Rattle.admission.specs.Faults.{Fault, fine, fault, must, ◌⊳◌, unless_fault}
use Rattle.admission.specs.Heads.{head_of, is_kind, room_for, is_empty_open}
use Rattle.admission.proofs.FaultLaws.{no-fault, ⊳-fine, must-fine}
use Rattle.admission.proofs.HeadLaws.{room_within}
use Rattle.obstacles.proofs.ObstacleFaults.{outline-lent}
use Rattle.dodgy_2d.specs.Scenes.{most_obstacles}
use Rattle.layouts.specs.Layouts.{Layout, vertices, at_fault, kind_fault, count_fault, own_kind, own_count, own_fault, lent_fault, layout_fault, vertex_total, layout_in, fault_in}

-- ---- a field at a place: lent, or missing

module _ (ks : List ℕ) (i : ℕ) where
  pub kind-there : i < length ks → kind_fault (drop i ks) ≡ must (is_kind (get_or ks i 0)) 3
  unfolding kind_fault
  kind-there h = rw (drop-cons ks i 0 h)

  pub kind-missing : length ks ≤ i → kind_fault (drop i ks) ≡ fault 2
  unfolding kind_fault
  kind-missing h = rw (drop_of_length-le ks h)

module _ (total kind : ℕ) (cs : List ℕ) (i : ℕ) where
  pub count-there : i < length cs → count_fault total kind (drop i cs)
      ≡ (must (room_for total (get_or cs i 0)) 4 ⊳ must (not (is_empty_open kind (get_or cs i 0))) 5)
  unfolding count_fault
  count-there h = rw (drop-cons cs i 0 h)

  pub count-missing : length cs ≤ i → count_fault total kind (drop i cs) ≡ fault 2
  unfolding count_fault
  count-missing h = rw (drop_of_length-le cs h)

-- a count that passes leaves room for its vertices
pub count_room : (total kind : ℕ) (cs : List ℕ) → count_fault total kind cs ≡ fine →
    (own_count cs ≤ 64) × (total + own_count cs ≤ 192)
unfolding count_fault
count_room total kind [] e = absurd (no-fault 2 (sym e))
count_room total kind (c ∷ cs) e = room_within total c (must-fine (room_for total c) 4 (⊳-fine (must (room_for total c) 4) e).0)

pub front_of : (l : List ℕ) (i : ℕ) → get_or (drop i l) 0 0 ≡ get_or l i 0
front_of l i = get_or-drop i l 0 0 ∙ rw add-zero

-- ---- the obstacles from the i-th of n on, behind `total` vertices

pub behind : (total count : ℕ) (xs : List Float) → drop (2 * count) (drop (2 * total) xs) ≡ drop (2 * (total + count)) xs
behind total count xs =
    let e : 2 * total + 2 * count ≡ 2 * (total + count) = omega arith in
    drop-drop (2 * count) (2 * total) xs ∙ ap (λ (k : ℕ). drop k xs) e

module _ (ks cs : List ℕ) (xs : List Float) (n i total : ℕ) where
  abbrev pub here : Fault
  here = own_fault total (drop i ks) (drop i cs) (drop (2 * total) xs)

  abbrev pub lent_left : Fault
  lent_left = lent_fault total (n - i) (drop i ks) (drop i cs) (drop (2 * total) xs)

  abbrev pub lent_later : ℕ → Fault
  lent_later count = lent_fault (total + count) (n - (i + 1)) (drop (i + 1) ks) (drop (i + 1) cs) (drop (2 * (total + count)) xs)

  pub lent-more : i < n → lent_left ≡ (here ⊳ lent_later (get_or cs i 0))
  unfolding lent_fault
  lent-more h =
      let e : n - i ≡ suc (n - (i + 1)) = omega arith in
      rw (e, front_of cs i, behind total (get_or cs i 0) xs, drop-drop 1 i ks, drop-drop 1 i cs)

  pub lent-on : i < n → fine ≡ here → lent_left ≡ lent_later (get_or cs i 0)
  lent-on h e = lent-more h ∙ rw (← e)

  pub lent-stop : (r : ℕ) → i < n → fault r ≡ here → lent_left ≡ fault r
  lent-stop r h e = lent-more h ∙ rw (← e)

  pub lent-done : n ≤ i → lent_left ≡ fine
  unfolding lent_fault
  lent-done h =
      let e : n - i ≡ 0 = omega arith in
      rw e

  pub total-on : i < n → vertex_total (n - i) (drop i cs) ≡ get_or cs i 0 + vertex_total (n - (i + 1)) (drop (i + 1) cs)
  unfolding vertex_total
  total-on h =
      let e : n - i ≡ suc (n - (i + 1)) = omega arith in
      rw (e, front_of cs i, drop-drop 1 i cs)

  pub total-done : n ≤ i → vertex_total (n - i) (drop i cs) ≡ 0
  unfolding vertex_total
  total-done h =
      let e : n - i ≡ 0 = omega arith in
      rw e

-- an obstacle that passes leaves room for its vertices
pub own_room : (total : ℕ) (ks cs : List ℕ) (xs : List Float) → own_fault total ks cs xs ≡ fine →
    (own_count cs ≤ 64) × (total + own_count cs ≤ 192)
unfolding own_fault
own_room total ks cs xs e =
    let k = ⊳-fine (kind_fault ks) e in
    let c = ⊳-fine (count_fault total (own_kind ks) cs) k.1 in
    count_room total (own_kind ks) cs c.0

-- and its vertices are there, behind those before it
pub own-there : (total : ℕ) (ks cs : List ℕ) (xs : List Float) → 2 * total ≤ length xs →
    own_fault total ks cs (drop (2 * total) xs) ≡ fine → 2 * (total + own_count cs) ≤ length xs
unfolding own_fault
own-there total ks cs xs h e =
    let k = ⊳-fine (kind_fault ks) e in
    let c = ⊳-fine (count_fault total (own_kind ks) cs) k.1 in
    let there = outline-lent (head_of (own_kind ks) (own_count cs)) (drop (2 * total) xs) c.1 in
    omega (arith, length-drop (2 * total) xs)

-- ---- the whole

module _ (ks cs : List ℕ) (xs : List Float) (n : ℕ) where
  pub told-fault : (r : ℕ) → n ≤ most_obstacles → lent_fault 0 n ks cs xs ≡ fault r → at_fault r ≡ layout_in n ks cs xs
  unfolding layout_in layout_fault
  told-fault r h e = rw (le-leb n most_obstacles h, e)

  pub told-total : (t : ℕ) → n ≤ most_obstacles → lent_fault 0 n ks cs xs ≡ fine → vertex_total n cs ≡ t →
      vertices t ≡ layout_in n ks cs xs
  unfolding layout_in layout_fault
  told-total t h e f = rw (le-leb n most_obstacles h, e, f)

  told_of : (f : Fault) (t : ℕ) → fault_in (unless_fault at_fault f (vertices t)) ≡ f
  told_of fine t = refl
  told_of (fault r) t = refl

  -- what the answer says of the fault, and of the vertices
  pub layout-fault : {l : Layout} → l ≡ layout_in n ks cs xs → fault_in l ≡ layout_fault n ks cs xs
  unfolding layout_in
  layout-fault e = ap fault_in e ∙ told_of (layout_fault n ks cs xs) (vertex_total n cs)

  unfoldable total_in : Layout → ℕ
  total_in (vertices t) = t
  total_in (at_fault r) = 0

  pub layout-total : {t : ℕ} → vertices t ≡ layout_in n ks cs xs → t ≡ vertex_total n cs
  unfolding layout_in total_in
  layout-total e =
      let passed : layout_fault n ks cs xs ≡ fine = sym (layout-fault e) in
      ap total_in e ∙ rw passed

-- half of the numbers, rounded up, are at most as many as the vertices
pub halved : (n total : ℕ) → leb (n - n / 2) total ≡ leb n (2 * total)
halved n total = go (leb n (2 * total)) refl where
  go : (b : Bool) → leb n (2 * total) ≡ b → leb (n - n / 2) total ≡ b
  go true e =
      let h : n ≤ 2 * total = leb-true n (2 * total) e in
      le-leb (n - n / 2) total (omega arith)
  go false e =
      let h : 2 * total < n = leb-false n (2 * total) e in
      lt-leb (n - n / 2) total (omega arith)
