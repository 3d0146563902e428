-- Laws of a pass from any of its lines on: what ended stays, it fails at a line of the list, and each line counts at
-- most 256 probes. Assumes nothing.
use Prim.Native.Nat.{ℕ, ◌+◌, ◌*◌, ◌≤◌, ◌<◌}
use mathlib.Core.Path.{◌≡◌, refl, sym}
use mathlib.Core.List.{List, [], ◌∷◌, ◌++◌}
use native.Mathlib.Omega.{arith}
use lib.ListN.{length, length-append}
use lib.Ieee.{Float}
use Rattle.arithmetic.proofs.Choice.{if-all}
use Rattle.std.specs.Prelude.{Result, Ok, Err}
use Rattle.admission.specs.declared.refusal.Refusal.{Refusal}
use Rattle.common.specs.declared.Vec2.{Vec2}
use Rattle.lines.specs.declared.Line.{Line}
use Rattle.lines.specs.Lines.{most_lines}
use Rattle.pass_2d.specs.declared.LinearProgram2D.{LinearProgram2D}
use Rattle.pass_2d.specs.declared.LinearProgram2D.TheVariants as lp2d
use Rattle.pass_2d.specs.Walk.{walk}
use Rattle.one_line.specs.OneLine.{Objective, toward, along, Found, at, fails, refuses, one_line}
use Rattle.pass_2d.specs.Pass.{start, Failure, Pass, feasible, failed, refused, judged, solved, pass_line, pass}
use Rattle.pass_2d.specs.Read.{pass_of, probes_of}
use Rattle.pass_2d.proofs.Probes.{Counts, counts, counts-failed, counts-none, more-counted, pass-counts}
use Rattle.pass_2d.proofs.WalkLaws.{walk-stays, walk-grows}

module _ (o : Objective) (limit : Float) where
  pub pass-failed : (f : Failure) (p : Vec2) (n : ℕ) (e l : List Line) → walk (pass_line o limit) e l (failed f p n) ≡ failed f p n
  unfolding pass_line
  pass-failed f p n = walk-stays (pass_line o limit) (failed f p n) (λ e x. refl)

  pub pass-refused : (r : ℕ) (e l : List Line) → walk (pass_line o limit) e l (refused r) ≡ refused r
  unfolding pass_line
  pass-refused r = walk-stays (pass_line o limit) (refused r) (λ e x. refl)

  -- from a starting point that is judged fine, or refused
  pub started : (l : List Line) (p : Vec2) → feasible p 0 ≡ judged o (start o limit) 0 →
      walk (pass_line o limit) [] l (feasible p 0) ≡ pass o limit l
  unfolding pass
  started l p h = rw (← h) refl

  pub not-started : (l : List Line) (r : ℕ) → refused r ≡ judged o (start o limit) 0 → refused r ≡ pass o limit l
  unfolding pass
  not-started l r h = rw (← h) (sym (pass-refused r [] l))

-- ---- it fails at its own line

pub data FailsAt (k : ℕ) : Pass → Type 0 where
  still : {p : Vec2} {n : ℕ} → FailsAt k (feasible p n)
  there : {f : Failure} {p : Vec2} {n : ℕ} → f.index ≡ k → FailsAt k (failed f p n)
  never : {r : ℕ} → FailsAt k (refused r)

-- a judged point never fails
pub data Unfailed : Pass → Type 0 where
  unfailed-feasible : {p : Vec2} {n : ℕ} → Unfailed (feasible p n)
  unfailed-refused : {r : ℕ} → Unfailed (refused r)

pub judged-unfailed : (o : Objective) (p : Vec2) (n : ℕ) → Unfailed (judged o p n)
unfolding judged
judged-unfailed (toward w) p n = if-all Unfailed _ unfailed-feasible unfailed-refused
judged-unfailed (along d) p n = unfailed-feasible

unfailed : (k : ℕ) {q : Pass} → Unfailed q → FailsAt k q
unfailed k unfailed-feasible = still
unfailed k unfailed-refused = never

solved-fails : (o : Objective) (k : ℕ) (p : Vec2) (n : ℕ) (q : Found) → FailsAt k (solved o k p n q)
unfolding solved
solved-fails o k p n (at q m) = unfailed k (judged-unfailed o q (n + m))
solved-fails o k p n (fails m cause) = there refl
solved-fails o k p n refuses = never

pub pass-fails : (o : Objective) (limit : Float) (e : List Line) (own : Line) (p : Vec2) (n : ℕ) →
    FailsAt (length e) (pass_line o limit e own (feasible p n))
unfolding pass_line
pass-fails o limit e own p n = if-all (FailsAt (length e)) _ still (solved-fails o (length e) p (n + 1) (one_line o limit own e))

-- ---- what it counts over at most 256 lines

-- after k lines, 256 probes a line
module _ (o : Objective) (limit : Float) where
  line-counted : (e : List Line) (own : Line) (s : Pass) → (length e ≤ most_lines → Counts (256 * length e) s) →
      length (e ++ (own ∷ [])) ≤ most_lines → Counts (256 * length (e ++ (own ∷ []))) (pass_line o limit e own s)
  unfolding pass_line
  line-counted e own s h short =
      let k : length (e ++ (own ∷ [])) ≡ length e + 1 = length-append e (own ∷ []) in
      rw k (next (h (omega arith)) (omega arith))
    where
      next : {t : Pass} → Counts (256 * length e) t → length e < most_lines →
          Counts (256 * (length e + 1)) (pass_line o limit e own t)
      next (counts {p} {n} a) room = more-counted (omega arith) (pass-counts o limit e own p n)
      next (counts-failed {n = n} a) room = counts-failed {n = n} (omega arith)
      next counts-none room = counts-none

  -- what the code counts, from any point on
  pub pass-most : (e l : List Line) (p : Vec2) (a : Result LinearProgram2D Refusal) → length (e ++ l) ≤ most_lines →
      pass_of a ≡ walk (pass_line o limit) e l (feasible p 0) → probes_of a ≤ 65536
  pass-most e l p a h eq =
      most a (rw (← eq) at (walk-grows (pass_line o limit) (λ i t. length i ≤ most_lines →
      Counts (256 * length i) t) line-counted e l (feasible p 0) (λ short. counts (omega arith)) h))
    where
      most : (a : Result LinearProgram2D Refusal) → Counts (256 * length (e ++ l)) (pass_of a) → probes_of a ≤ 65536
      most (Ok (lp2d.Feasible p n)) (counts b) = omega arith
      most (Ok (lp2d.Infeasible f p n)) (counts-failed b) = omega arith
      most (Err r) b = omega arith
