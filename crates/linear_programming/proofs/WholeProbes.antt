-- The probes of whole lists: a list that never fails takes n to n(n+1)/2, and every total fits 32 bits. Assumes nothing.
use Prim.Native.Nat.{ℕ, ◌+◌, ◌*◌, ◌≤◌}
use mathlib.Core.Path.{◌≡◌, refl}
use mathlib.Core.List.{List}
use native.Mathlib.Omega.{arith}
use lib.ListN.{length, take, drop, take-append-drop}
use lib.Ieee.{Float}
use Rattle.arithmetic.specs.Binary32.{0ᶠ}
use Rattle.arithmetic.proofs.Choice.{if-all}
use Rattle.common.specs.declared.Vec2.{Vec2}
use Rattle.lines.specs.declared.Line.{Line}
use Rattle.lines.specs.Lines.{most_lines}
use Rattle.pass_2d.specs.Walk.{walk}
use Rattle.one_line.specs.OneLine.{toward}
use Rattle.pass_2d.specs.Pass.{Pass, feasible, failed, refused, pass}
use Rattle.relaxation.specs.Relax.{Relaxed, relaxed, relax_refused, relax_line}
use Rattle.linear_programming.specs.Whole.{Phase, solving, relaxing, rigid_failure, Failed, failed_line, Outcome, stands, refusal, relaxed_outcome, after_pass, whole_list}
use Rattle.pass_2d.proofs.Probes.{Takes, takes, takes-failed, takes_none, pass-takes, pass-probes, bound-grows}
use Rattle.relaxation.proofs.RelaxedProbes.{CountsRelaxed, counts-relaxed, counts-relaxed-none, looser, walk-counts}

-- ---- a list that never fails

-- of a list of k lines: solving, its probes are between k and k(k+1)/2
data Solving (k : ℕ) : Outcome → Type 0 where
  in-solving : {p : Vec2} {f : Failed} {n : ℕ} → (k ≤ n) × (2 * n ≤ k * (k + 1)) → Solving k (stands (solving p) f n)
  in-relaxing : {p : Vec2} {depth : Float} {f : Failed} {n : ℕ} → Solving k (stands (relaxing p depth) f n)
  in-rigid : {i : ℕ} {p : Vec2} {f : Failed} {n : ℕ} → Solving k (stands (rigid_failure i p) f n)
  in-refusal : {r : ℕ} → Solving k (refusal r)

relaxed-solving : (k : ℕ) (f : Failed) (s : Relaxed) → Solving k (relaxed_outcome f s)
relaxed-solving k f (relaxed p depth n) = in-relaxing
relaxed-solving k f (relax_refused r) = in-refusal

module _ (rigid : ℕ) (wish : Vec2) (limit : Float) (lines : List Line) where
  after-solving : (q : Pass) → pass (toward wish) limit lines ≡ q → Solving (length lines) (after_pass rigid limit lines q)
  unfolding after_pass
  after-solving (feasible p n) e = in-solving (pass-probes (toward wish) limit lines e)
  after-solving (failed f p n) e = if-all (Solving (length lines)) _ in-rigid
      (relaxed-solving (length lines) (failed_line f) (walk (relax_line rigid limit) (take f.index lines)
      (drop f.index lines) (relaxed p 0ᶠ n)))
  after-solving (refused r) e = in-refusal

  -- 01: "A list of n lines that never fails takes n to n(n+1)/2 probes."
  pub whole-probes : {p : Vec2} {f : Failed} {n : ℕ} → whole_list rigid wish limit lines ≡ stands (solving p) f n →
      (length lines ≤ n) × (2 * n ≤ length lines * (length lines + 1))
  unfolding whole_list
  whole-probes e = counted (rw e at (after-solving _ refl))
    where
      counted : {k : ℕ} {p : Vec2} {f : Failed} {n : ℕ} → Solving k (stands (solving p) f n) → (k ≤ n) × (2 * n ≤ k * (k + 1))
      counted (in-solving b) = b

-- ---- every list of at most 256 lines

-- a total of at most b, or none
data Totals (b : ℕ) : Outcome → Type 0 where
  totals : {ph : Phase} {f : Failed} {n : ℕ} → n ≤ b → Totals b (stands ph f n)
  totals-none : {r : ℕ} → Totals b (refusal r)

relaxed-totals : {b : ℕ} (f : Failed) {s : Relaxed} → CountsRelaxed b s → Totals b (relaxed_outcome f s)
relaxed-totals f (counts-relaxed h) = totals h
relaxed-totals f counts-relaxed-none = totals-none

module _ (rigid : ℕ) (limit : Float) where
  after-totals : (lines : List Line) → length lines ≤ most_lines → {q : Pass} → Takes (length lines) q →
      Totals 16777216 (after_pass rigid limit lines q)
  unfolding after_pass
  after-totals lines short (takes {n = n} a b) = totals {n = n} (omega (arith, bound-grows most_lines (length lines) n short b))
  after-totals lines short (takes-failed {f} {p} {n} b) =
      let most : n ≤ 32896 = omega (arith, bound-grows most_lines (length lines) n short b) in
      let whole = take-append-drop f.index lines in
      if-all (Totals 16777216) _ (totals (omega arith))
      (relaxed-totals (failed_line f) (looser {a = 32896 + 32896 * length lines} (omega arith)
      (rw whole at (walk-counts rigid limit 32896 (take f.index lines) (drop f.index lines) (relaxed p 0ᶠ n)
      (rw whole short) (counts-relaxed most)))))
  after-totals lines short takes_none = totals-none

-- at most 2 ^ 24, so no total comes near 2 ^ 32
pub whole-fits : (rigid : ℕ) (wish : Vec2) (limit : Float) (lines : List Line) {ph : Phase} {f : Failed} {n : ℕ} →
    length lines ≤ most_lines → whole_list rigid wish limit lines ≡ stands ph f n → n ≤ 16777216
unfolding whole_list
whole-fits rigid wish limit lines short e =
    counted (rw e at (after-totals rigid limit lines short (pass-takes (toward wish) limit lines)))
  where
    counted : {b : ℕ} {ph : Phase} {f : Failed} {n : ℕ} → Totals b (stands ph f n) → n ≤ b
    counted (totals h) = h
