-- What holds of lent obstacles that pass: every field is there, and the limits are kept. Assumes nothing.
use Prim.Native.Nat.{ℕ, zero, suc, ◌+◌, ◌*◌, ◌≤◌, ◌<◌}
use native.Mathlib.Omega.{arith}
use mathlib.Core.Path.{◌≡◌, sym, ◌∙◌}
use mathlib.Core.List.{List, [], ◌∷◌}
use lib.Dec.{leb}
use lib.ListN.{length, drop, get_or, length-drop}
use lib.Ieee.{Float}
use borrow.Author.Tests.{leb-true}
use Rattle.admission.specs.Faults.{fine, must}
use Rattle.admission.proofs.FaultLaws.{no-fault, ⊳-fine, must-fine}
use Rattle.admission.specs.Heads.{head_of}
use Rattle.obstacles.proofs.ObstacleFaults.{outline-lent}
use Rattle.dodgy_2d.specs.Scenes.{most_obstacles}
use Rattle.layouts.specs.Layouts.{kind_fault, count_fault, own_kind, own_count, own_fault, lent_fault, layout_fault, vertex_total, left_fault}
use Rattle.layouts.proofs.LentInOrder.{count_room, front_of, own_room, own-there, here, lent_left, lent_later, lent-more}

-- ---- a field that passes is there

pub kind-lent : (ks : List ℕ) → kind_fault ks ≡ fine → 1 ≤ length ks
unfolding kind_fault
kind-lent [] e = absurd (no-fault 2 (sym e))
kind-lent (k ∷ ks) e = omega arith

count-lent : (total kind : ℕ) (cs : List ℕ) → count_fault total kind cs ≡ fine → 1 ≤ length cs
unfolding count_fault
count-lent total kind [] e = absurd (no-fault 2 (sym e))
count-lent total kind (c ∷ cs) e = omega arith

-- ---- obstacles

pub record Lent (total n : ℕ) (ks cs : List ℕ) (xs : List Float) : Type 0 where
  pub kinds : n ≤ length ks
  pub counts : n ≤ length cs
  pub vertices : 2 * vertex_total n cs ≤ length xs
  pub few : total + vertex_total n cs ≤ 192

pub all-lent : (total n : ℕ) (ks cs : List ℕ) (xs : List Float) → total ≤ 192 → lent_fault total n ks cs xs ≡ fine →
    Lent total n ks cs xs
unfolding lent_fault own_fault vertex_total
all-lent total zero ks cs xs h e = record { kinds = omega arith; counts = omega arith; vertices = omega arith; few = omega arith }
all-lent total (suc n) ks cs xs h e =
    let a = ⊳-fine (own_fault total ks cs xs) e in
    let k = ⊳-fine (kind_fault ks) a.0 in
    let c = ⊳-fine (count_fault total (own_kind ks) cs) k.1 in
    let kind = kind-lent ks k.0 in
    let count = count-lent total (own_kind ks) cs c.0 in
    let room = count_room total (own_kind ks) cs c.0 in
    let own = outline-lent (head_of (own_kind ks) (own_count cs)) xs c.1 in
    let rest = all-lent (total + own_count cs) n (drop 1 ks) (drop 1 cs) (drop (2 * own_count cs) xs) room.1 a.1 in
    record {
      kinds = omega (arith, rest.kinds, length-drop 1 ks);
      counts = omega (arith, rest.counts, length-drop 1 cs);
      vertices = omega (arith, rest.vertices, own, length-drop (2 * own_count cs) xs);
      few = omega (arith, rest.few);
    }

-- the obstacle at i, behind `total` vertices that are there: it has room for its vertices, they are there, and the
-- obstacles behind it pass
module _ (ks cs : List ℕ) (xs : List Float) (n i total : ℕ) where
  pub next-passes : i < n → 2 * total ≤ length xs → lent_left ks cs xs n i total ≡ fine
      → (total + get_or cs i 0 ≤ 192) × (2 * (total + get_or cs i 0) ≤ length xs)
      × (lent_later ks cs xs n i total (get_or cs i 0) ≡ fine)
  next-passes h t e =
      let both = ⊳-fine (here ks cs xs n i total) (sym (lent-more ks cs xs n i total h) ∙ e) in
      let room = rw (front_of cs i) at (own_room total (drop i ks) (drop i cs) (drop (2 * total) xs) both.0) in
      let there = rw (front_of cs i) at (own-there total (drop i ks) (drop i cs) xs t both.0) in
      (room.1, there, both.1)

-- an admitted layout with nothing left over is as long as its counts say
pub record Exact (n : ℕ) (ks cs : List ℕ) (xs : List Float) : Type 0 where
  pub few : n ≤ 16
  pub kinds : length ks ≡ n
  pub counts : length cs ≡ n
  pub vertices : length xs ≡ 2 * vertex_total n cs
  pub most : vertex_total n cs ≤ 192

pub exactly : (n : ℕ) (ks cs : List ℕ) (xs : List Float) → layout_fault n ks cs xs ≡ fine →
    left_fault n (vertex_total n cs) ks cs xs ≡ fine → Exact n ks cs xs
unfolding layout_fault left_fault
exactly n ks cs xs e f =
    let a = ⊳-fine (must (leb n most_obstacles) 4) e in
    let there = all-lent 0 n ks cs xs (omega arith) a.1 in
    let b = ⊳-fine (must (leb (length ks) n) 2) f in
    let c = ⊳-fine (must (leb (length cs) n) 2) b.1 in
    let no-kinds = leb-true (length ks) n (must-fine (leb (length ks) n) 2 b.0) in
    let no-counts = leb-true (length cs) n (must-fine (leb (length cs) n) 2 c.0) in
    let no-vertices = leb-true (length xs) (2 * vertex_total n cs) (must-fine (leb (length xs) (2 * vertex_total n cs)) 2 c.1) in
    record {
      few = leb-true n most_obstacles (must-fine (leb n most_obstacles) 4 a.0);
      kinds = omega (arith, there.kinds, no-kinds);
      counts = omega (arith, there.counts, no-counts);
      vertices = omega (arith, there.vertices, no-vertices);
      most = omega (arith, there.few);
    }
