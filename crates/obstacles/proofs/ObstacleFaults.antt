-- Lent vertices judged in order: a number that is there or missing, a vertex that passes or stops the walk; and what an
-- obstacle without a fault has: few vertices, all of them there, and nothing behind them. Assumes nothing.
use Prim.Native.Nat.{ℕ, zero, suc, ◌+◌, ◌-◌, ◌*◌, ◌≤◌, ◌<◌}
use mathlib.Core.Path.{◌≡◌, sym, ◌∙◌}
use mathlib.Core.Bool.{Bool, true, not}
use mathlib.Core.List.{List, [], ◌∷◌}
use native.Mathlib.Omega.{arith}
use lib.Dec.{leb}
use lib.ListN.{length, drop, get_or, length-drop, drop_of_length-le}
use lib.Seq.{drop-cons, drop-drop}
use lib.Ieee.{Float}
use borrow.Author.Tests.{leb-true}
use Rattle.admission.specs.declared.Head.{Head}
use Rattle.admission.specs.Faults.{Fault, fine, fault, must, ◌⊳◌, within}
use Rattle.admission.specs.Heads.{is_kind, room_for, is_empty_open}
use Rattle.admission.proofs.FaultLaws.{no-fault, ⊳-fine, must-fine}
use Rattle.admission.proofs.HeadLaws.{room_within}
use Rattle.common.specs.declared.Vec2.{Vec2}
use Rattle.common.specs.Vectors.{reach}
use Rattle.edges.specs.Edges.{OuterVertex}
use Rattle.obstacles.specs.Doubled.{none_before, on_vertex}
use Rattle.obstacles.specs.ObstacleFaults.{number_fault, components_fault, front_of, vertex_fault, vertices_fault, head_fault, outline_fault, obstacle_fault}

-- ---- one number

module _ (passes : Float → Bool) (xs : List Float) (i : ℕ) where
  pub number-there : (d : Float) → i < length xs → number_fault passes (drop i xs) ≡ must (passes (get_or xs i d)) 6
  unfolding number_fault
  number-there d h = rw (drop-cons xs i d h)

  pub number-missing : length xs ≤ i → number_fault passes (drop i xs) ≡ fault 2
  unfolding number_fault
  number-missing h = rw (drop_of_length-le xs h)

-- one that passes is there
pub number-lent : (passes : Float → Bool) (xs : List Float) → number_fault passes xs ≡ fine → 1 ≤ length xs
unfolding number_fault
number-lent passes [] e = absurd (no-fault 2 (sym e))
number-lent passes (x ∷ xs) e = omega arith

-- ---- vertices

components-lent : (xs : List Float) → components_fault xs ≡ fine → 2 ≤ length xs
unfolding components_fault
components-lent xs e =
    let y = number-lent (within reach) (drop 1 xs) (⊳-fine (number_fault (within reach) xs) e).1 in
    omega (arith, length-drop 1 xs)

-- those at the i-th, behind as many vertices that are there
pub components-there : (xs : List Float) (i : ℕ) → fine ≡ components_fault (drop (2 * i) xs) → 2 * i + 2 ≤ length xs
components-there xs i e =
    let own = components-lent (drop (2 * i) xs) (sym e) in
    omega (arith, length-drop (2 * i) xs)

pub vertex-lent : (before : OuterVertex) (xs : List Float) → vertex_fault before xs ≡ fine → 2 ≤ length xs
unfolding vertex_fault
vertex-lent before xs e = components-lent xs (⊳-fine (components_fault xs) e).0

pub vertices-lent : (before : OuterVertex) (n : ℕ) (xs : List Float) → vertices_fault before n xs ≡ fine → 2 * n ≤ length xs
unfolding vertices_fault
vertices-lent before zero xs e = omega arith
vertices-lent before (suc n) xs e =
    let a = ⊳-fine (vertex_fault before xs) e in
    let first = vertex-lent before xs a.0 in
    let rest = vertices-lent (on_vertex before (front_of xs)) n (drop 2 xs) a.1 in
    omega (arith, length-drop 2 xs)

-- those from the i-th of n on, behind the one before them
module _ (xs : List Float) (n i : ℕ) (before : OuterVertex) where
  abbrev pub vertices_from : OuterVertex → ℕ → Fault
  vertices_from u k = vertices_fault u (n - k) (drop (2 * k) xs)

  abbrev own : Fault
  own = vertex_fault before (drop (2 * i) xs)

  vertex-more : i < n → vertices_from before i ≡ (own ⊳ vertices_from (on_vertex before (front_of (drop (2 * i) xs))) (i + 1))
  unfolding vertices_fault
  vertex-more h =
      let e : n - i ≡ suc (n - (i + 1)) = omega arith in
      let f : 2 * (i + 1) ≡ 2 * i + 2 = omega arith in
      rw (e, f, ← drop-drop 2 (2 * i) xs)

  pub vertex-on : (v : Vec2) → i < n → fine ≡ own → v ≡ front_of (drop (2 * i) xs) → vertices_from before i
      ≡ vertices_from (on_vertex before v) (i + 1)
  vertex-on v h e f = vertex-more h ∙ rw (← e, ← f)

  pub vertex-stop : (r : ℕ) → i < n → fault r ≡ own → vertices_from before i ≡ fault r
  vertex-stop r h e = vertex-more h ∙ rw (← e)

  pub vertices-done : n ≤ i → vertices_from before i ≡ fine
  unfolding vertices_fault
  vertices-done h =
      let e : n - i ≡ 0 = omega arith in
      rw e

  -- a vertex that passes is there, with those before it
  pub next-lent : 2 * i ≤ length xs → fine ≡ own → 2 * (i + 1) ≤ length xs
  next-lent h e =
      let there = vertex-lent before (drop (2 * i) xs) (sym e) in
      omega (arith, length-drop (2 * i) xs)

pub outline-lent : (h : Head) (xs : List Float) → outline_fault h xs ≡ fine → 2 * h.count ≤ length xs
unfolding outline_fault
outline-lent h xs e = vertices-lent none_before h.count xs (⊳-fine (vertices_fault none_before h.count xs) e).0

-- ---- the obstacle

-- a head without a fault passes each test
pub head_passed : (total : ℕ) (h : Head) → head_fault total h ≡ fine → (is_kind h.kind ≡ true)
    × (room_for total h.count ≡ true) × (not (is_empty_open h.kind h.count) ≡ true)
unfolding head_fault
head_passed total h e =
    let a = ⊳-fine (must (is_kind h.kind) 3) e in
    let b = ⊳-fine (must (room_for total h.count) 4) a.1 in
    (must-fine _ 3 a.0, must-fine _ 4 b.0, must-fine _ 5 b.1)

pub head-room : (total : ℕ) (h : Head) → head_fault total h ≡ fine → (h.count ≤ 64) × (total + h.count ≤ 192)
head-room total h e = room_within total h.count (head_passed total h e).1

-- the numbers of an obstacle without a fault are its vertices' and no more
pub just-lent : (h : Head) (xs : List Float) → obstacle_fault h xs ≡ fine → (h.count ≤ 64) × (length xs ≡ 2 * h.count)
unfolding obstacle_fault
just-lent h xs e =
    let a = ⊳-fine (head_fault 0 h) e in
    let b = ⊳-fine (outline_fault h xs) a.1 in
    let there = outline-lent h xs b.0 in
    let none : length xs ≤ 2 * h.count = leb-true _ _ (must-fine (leb (length xs) (2 * h.count)) 2 b.1) in
    ((head-room 0 h a.0).0, omega arith)
