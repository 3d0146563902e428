-- How many probes a pass counts: over n lines n(n+1)/2 at most, in one that never fails at least n. Assumes nothing.
use Prim.Native.Nat.{ℕ, ◌+◌, ◌*◌, ◌≤◌}
use mathlib.Core.Path.{◌≡◌}
use mathlib.Core.List.{List, [], ◌∷◌, ◌++◌}
use native.Mathlib.Omega.{arith}
use native.Mathlib.Nat.{mul-le-mul, add-mul, mul-add}
use lib.ListN.{length, length-append}
use lib.Ieee.{Float}
use Rattle.arithmetic.proofs.Choice.{if-all}
use Rattle.common.specs.declared.Vec2.{Vec2}
use Rattle.lines.specs.declared.Line.{Line}
use Rattle.one_line.specs.OneLine.{Objective, toward, along, Found}
use Rattle.pass_2d.specs.Pass.{Failure, Pass, feasible, failed, refused, judged, solved, pass_line, pass}
use Rattle.one_line.proofs.OneLineLaws.{Solves, solves, stops, stops-refused, line-solves}
use Rattle.pass_2d.proofs.WalkLaws.{walk-grows}

-- ---- one line of a pass

-- a pass, however it stands, has counted at most b
pub data Counts (b : ℕ) : Pass → Type 0 where
  counts : {p : Vec2} {n : ℕ} → n ≤ b → Counts b (feasible p n)
  counts-failed : {f : Failure} {p : Vec2} {n : ℕ} → n ≤ b → Counts b (failed f p n)
  counts-none : {r : ℕ} → Counts b (refused r)

pub more-counted : {a b : ℕ} → a ≤ b → {q : Pass} → Counts a q → Counts b q
more-counted h (counts {n = n} k) = counts {n = n} (omega arith)
more-counted h (counts-failed {n = n} k) = counts-failed {n = n} (omega arith)
more-counted h counts-none = counts-none

judged-counts : (o : Objective) (q : Vec2) (n b : ℕ) → n ≤ b → Counts b (judged o q n)
unfolding judged
judged-counts (toward w) q n b h = if-all (Counts b) _ (counts h) counts-none
judged-counts (along d) q n b h = counts h

solved-counts : (o : Objective) (j : ℕ) (p : Vec2) (n i : ℕ) {q : Found} → Solves (0 + i) q → Counts (n + i) (solved o j p n q)
unfolding solved
solved-counts o j p n i (solves {q}) = judged-counts o q (n + (0 + i)) (n + i) (omega arith)
solved-counts o j p n i (stops {n = m} h by) = counts-failed {n = n + m} (omega arith)
solved-counts o j p n i stops-refused = counts-none

pub pass-counts : (o : Objective) (limit : Float) (e : List Line) (own : Line) (p : Vec2) (n : ℕ) →
    Counts (n + 1 + length e) (pass_line o limit e own (feasible p n))
unfolding pass_line
pass-counts o limit e own p n = if-all (Counts (n + 1 + length e)) _ (counts (omega arith))
    (solved-counts o (length e) p (n + 1) (length e) (line-solves o limit own e))

pub line-most : (o : Objective) (limit : Float) (e : List Line) (own : Line) (p q : Vec2) (n m : ℕ) →
    feasible q m ≡ pass_line o limit e own (feasible p n) → m ≤ n + 1 + length e
line-most o limit e own p q n m h = counted (rw (← h) at (pass-counts o limit e own p n))
  where
    counted : {b : ℕ} → Counts b (feasible q m) → m ≤ b
    counted (counts k) = k

-- ---- a whole pass

-- a pass over k lines took at most k(k+1)/2, and at least k where it has not failed
pub data Takes (k : ℕ) : Pass → Type 0 where
  takes : {p : Vec2} {n : ℕ} → k ≤ n → 2 * n ≤ k * (k + 1) → Takes k (feasible p n)
  takes-failed : {f : Failure} {p : Vec2} {n : ℕ} → 2 * n ≤ k * (k + 1) → Takes k (failed f p n)
  takes_none : {r : ℕ} → Takes k (refused r)

judged-takes : (o : Objective) (k : ℕ) (p : Vec2) (n : ℕ) → k ≤ n → 2 * n ≤ k * (k + 1) → Takes k (judged o p n)
unfolding judged
judged-takes (toward w) k p n a b = if-all (Takes k) _ (takes a b) takes_none
judged-takes (along d) k p n a b = takes a b

-- (k + 1)(k + 2) = k (k + 1) + 2 (k + 1)
next-product : (k : ℕ) → (k + 1) * (k + 1 + 1) ≡ k * (k + 1) + 2 * (k + 1)
next-product k = omega (arith, mul-add (k + 1) (k + 1) 1, add-mul k 1 (k + 1))

solved-takes : (o : Objective) (j k : ℕ) (p : Vec2) (n : ℕ) → k ≤ n → 2 * n ≤ k * (k + 1) → {q : Found} →
    Solves (0 + k) q → Takes (k + 1) (solved o j p (n + 1) q)
unfolding solved
solved-takes o j k p n a b solves = judged-takes o (k + 1) _ (n + 1 + (0 + k)) (omega arith) (omega (arith, next-product k))
solved-takes o j k p n a b (stops {n = m} h by) = takes-failed {n = n + 1 + m} (omega (arith, next-product k))
solved-takes o j k p n a b stops-refused = takes_none

line-takes : (o : Objective) (limit : Float) (e : List Line) (own : Line) (s : Pass) → Takes (length e) s →
    Takes (length (e ++ (own ∷ []))) (pass_line o limit e own s)
unfolding pass_line
line-takes o limit e own s h = rw (length-append e (own ∷ [])) (go h)
  where
    go : {t : Pass} → Takes (length e) t → Takes (length e + 1) (pass_line o limit e own t)
    go (takes {p} {n} a b) =
        if-all (Takes (length e + 1)) _ (takes (omega arith) (omega (arith, next-product (length e))))
        (solved-takes o (length e) (length e) p n a b (line-solves o limit own e))
    go (takes-failed {n = n} b) = takes-failed {n = n} (omega (arith, next-product (length e)))
    go takes_none = takes_none

pub pass-takes : (o : Objective) (limit : Float) (lines : List Line) → Takes (length lines) (pass o limit lines)
unfolding pass
pass-takes o limit lines = walk-grows (pass_line o limit) (λ l s. Takes (length l) s) (line-takes o limit) [] lines _
    (judged-takes o 0 _ 0 (omega arith) (omega arith))

-- 01: "A list of n lines that never fails takes n to n(n+1)/2 probes."
pub pass-probes : (o : Objective) (limit : Float) (lines : List Line) {p : Vec2} {n : ℕ} →
    pass o limit lines ≡ feasible p n → (length lines ≤ n) × (2 * n ≤ length lines * (length lines + 1))
pass-probes o limit lines e = bounds (rw e at (pass-takes o limit lines))
  where
    bounds : {k : ℕ} {p : Vec2} {n : ℕ} → Takes k (feasible p n) → (k ≤ n) × (2 * n ≤ k * (k + 1))
    bounds (takes a b) = (a, b)

-- the bound for more lines
pub bound-grows : (t k n : ℕ) → k ≤ t → 2 * n ≤ k * (k + 1) → 2 * n ≤ t * (t + 1)
bound-grows t k n h b =
    let g : k + 1 ≤ t + 1 = omega arith in
    let m : k * (k + 1) ≤ t * (t + 1) = mul-le-mul h g in
    omega arith
