-- How many probes relaxation counts at most: 32,896 a line, of which an inner solve takes 32,640. Assumes nothing.
use Prim.Native.Nat.{ℕ, ◌+◌, ◌*◌, ◌≤◌}
use mathlib.Core.Path.{◌≡◌}
use mathlib.Core.List.{List, [], ◌∷◌, ◌++◌}
use native.Mathlib.Omega.{arith}
use lib.ListN.{length, length-drop, length-append}
use lib.Ieee.{Float}
use Rattle.arithmetic.proofs.Choice.{if-all}
use Rattle.std.specs.Prelude.{Result, Ok, Err}
use Rattle.admission.specs.declared.refusal.Refusal.{Refusal}
use Rattle.common.specs.declared.Vec2.{Vec2}
use Rattle.lines.specs.declared.Line.{Line}
use Rattle.lines.specs.Lines.{most_lines}
use Rattle.one_line.specs.OneLine.{Objective}
use Rattle.pass_2d.specs.declared.LinearProgram2D.{LinearProgram2D}
use Rattle.pass_2d.specs.declared.LinearProgram2D.TheVariants as lp2d
use Rattle.pass_2d.specs.Walk.{walk}
use Rattle.pass_2d.specs.Pass.{Pass, pass}
use Rattle.pass_2d.specs.Read.{pass_of, probes_of}
use Rattle.pass_2d.proofs.Probes.{Counts, counts, counts-failed, counts-none, Takes, takes, takes-failed, takes_none, pass-takes, bound-grows}
use Rattle.pass_2d.proofs.WalkLaws.{walk-grows}
use Rattle.relaxation.specs.Relax.{build_probes, tightened, Relaxed, relaxed, relax_refused, replaced, relax_line}
use Rattle.relaxation.proofs.TightLaws.{tightened-long}

-- an inner solve, over at most 255 lines, takes at most 32,640
inner-counts : (o : Objective) (limit : Float) (l : List Line) → length l ≤ 255 → Counts 32640 (pass o limit l)
inner-counts o limit l h = go (pass-takes o limit l)
  where
    go : {q : Pass} → Takes (length l) q → Counts 32640 q
    go (takes {n = n} a b) = counts {n = n} (omega (arith, bound-grows 255 (length l) n h b))
    go (takes-failed {n = n} b) = counts-failed {n = n} (omega (arith, bound-grows 255 (length l) n h b))
    go takes_none = counts-none

pub inner-solve-most : (o : Objective) (limit : Float) (l : List Line) (a : Result LinearProgram2D Refusal) → length l ≤ 255 →
    pass_of a ≡ pass o limit l → probes_of a ≤ 32640
inner-solve-most o limit l a h e = most a (rw (← e) at (inner-counts o limit l h))
  where
    most : (a : Result LinearProgram2D Refusal) → Counts 32640 (pass_of a) → probes_of a ≤ 32640
    most (Ok (lp2d.Feasible p n)) (counts k) = k
    most (Ok (lp2d.Infeasible f p n)) (counts-failed k) = k
    most (Err r) k = omega arith

-- ---- one line of relaxation

-- relaxation, however it stands, has counted at most b
pub data CountsRelaxed (b : ℕ) : Relaxed → Type 0 where
  counts-relaxed : {p : Vec2} {depth : Float} {n : ℕ} → n ≤ b → CountsRelaxed b (relaxed p depth n)
  counts-relaxed-none : {r : ℕ} → CountsRelaxed b (relax_refused r)

replaced-counts : (own : Line) (p : Vec2) (depth : Float) (n b : ℕ) {q : Pass} → Counts b q →
    CountsRelaxed (n + b) (replaced own p depth n q)
unfolding replaced
replaced-counts own p depth n b (counts {n = m} h) =
    if-all (CountsRelaxed (n + b)) _ (counts-relaxed (omega arith)) counts-relaxed-none
replaced-counts own p depth n b (counts-failed {n = m} h) = counts-relaxed {n = n + m} (omega arith)
replaced-counts own p depth n b counts-none = counts-relaxed-none

build-most : (rigid : ℕ) (e : List Line) → build_probes rigid e ≤ length e
build-most rigid e = rw length-drop (omega arith)

pub looser : {a b : ℕ} → a ≤ b → {s : Relaxed} → CountsRelaxed a s → CountsRelaxed b s
looser h (counts-relaxed {n = n} k) = counts-relaxed {n = n} (omega arith)
looser h counts-relaxed-none = counts-relaxed-none

module _ (rigid : ℕ) (limit : Float) (e : List Line) (own : Line) (short : length e ≤ 255) (p : Vec2) (depth : Float)
    (n : ℕ) where
  pub relax-counts : CountsRelaxed (n + 32896) (relax_line rigid limit e own (relaxed p depth n))
  unfolding relax_line
  relax-counts =
      let t = tightened-long rigid own e in
      let b = build-most rigid e in
      if-all (CountsRelaxed (n + 32896)) _ (counts-relaxed (omega arith))
      (looser {a = n + 1 + build_probes rigid e + 32640} (omega arith)
      (replaced-counts own p depth _ 32640 (inner-counts _ limit (tightened rigid own e) (omega arith))))

  pub relax-most : (q : Vec2) (d : Float) (m : ℕ) → relaxed q d m ≡ relax_line rigid limit e own (relaxed p depth n) →
      m ≤ n + 32896
  relax-most q d m h = counted (rw (← h) at relax-counts)
    where
      counted : {b : ℕ} → CountsRelaxed b (relaxed q d m) → m ≤ b
      counted (counts-relaxed k) = k

-- ---- relaxation over lines

module _ (rigid : ℕ) (limit : Float) where
  line-counts : (b : ℕ) (e : List Line) (own : Line) (s : Relaxed) →
      (length e ≤ most_lines → CountsRelaxed (b + 32896 * length e) s) →
      length (e ++ (own ∷ [])) ≤ most_lines → CountsRelaxed (b + 32896 * length (e ++ (own ∷ []))) (relax_line rigid limit e own s)
  unfolding relax_line
  line-counts b e own s h short =
      let k : length (e ++ (own ∷ [])) ≡ length e + 1 = length-append e (own ∷ []) in
      rw k (counted-on (h (omega arith)) (omega arith))
    where
      counted-on : {t : Relaxed} → CountsRelaxed (b + 32896 * length e) t → length e ≤ 255 →
          CountsRelaxed (b + 32896 * (length e + 1)) (relax_line rigid limit e own t)
      counted-on (counts-relaxed {p} {depth} {n} d) room =
          looser {a = n + 32896} (omega arith) (relax-counts rigid limit e own room p depth n)
      counted-on counts-relaxed-none room = counts-relaxed-none

  -- relaxation over l behind e, of a pass that took b
  pub walk-counts : (b : ℕ) (e l : List Line) (s : Relaxed) → length (e ++ l) ≤ most_lines → CountsRelaxed b s →
      CountsRelaxed (b + 32896 * length (e ++ l)) (walk (relax_line rigid limit) e l s)
  walk-counts b e l s short d =
      walk-grows (relax_line rigid limit) (λ i t. length i ≤ most_lines → CountsRelaxed (b + 32896 * length i) t)
      (line-counts b) e l s (λ room. looser (omega arith) d) short
