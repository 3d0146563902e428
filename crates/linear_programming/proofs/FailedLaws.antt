-- Where the failed line stands in its list (`failed-placed`): it is a line of the list, rigid in a rigid failure and
-- not while relaxing. Assumes nothing.
use Prim.Native.Nat.{ℕ, ◌+◌, ◌≤◌, ◌<◌}
use mathlib.Core.Path.{◌≡◌}
use mathlib.Core.List.{List, [], ◌∷◌, ◌++◌}
use native.Mathlib.Omega.{arith}
use lib.ListN.{length, length-append, take, drop}
use lib.Dec.{ltb}
use lib.Ieee.{Float}
use borrow.Author.Tests.{ltb-true, ltb-false}
use Rattle.arithmetic.specs.Binary32.{0ᶠ}
use Rattle.arithmetic.proofs.Choice.{if-case}
use Rattle.common.specs.declared.Vec2.{Vec2}
use Rattle.lines.specs.declared.Line.{Line}
use Rattle.pass_2d.specs.Walk.{walk}
use Rattle.one_line.specs.OneLine.{Objective, toward}
use Rattle.pass_2d.specs.Pass.{Failure, Pass, feasible, failed, refused, pass_line, pass}
use Rattle.relaxation.specs.Relax.{Relaxed, relaxed, relax_refused, relax_line}
use Rattle.linear_programming.specs.Whole.{Phase, solving, relaxing, rigid_failure, no_line, failed_line, Outcome, stands, refusal, relaxed_outcome, after_pass, whole_list}
use Rattle.pass_2d.proofs.WalkLaws.{walk-grows}
use Rattle.pass_2d.proofs.PassLaws.{FailsAt, still, there, never, Unfailed, unfailed-feasible, unfailed-refused, judged-unfailed, pass-fails}

-- ---- a pass over n lines

data Within (n : ℕ) : Pass → Type 0 where
  within-feasible : {p : Vec2} {m : ℕ} → Within n (feasible p m)
  within-failed : {f : Failure} {p : Vec2} {m : ℕ} → f.index < n → Within n (failed f p m)
  within-refused : {r : ℕ} → Within n (refused r)

unfailed-within : (n : ℕ) {q : Pass} → Unfailed q → Within n q
unfailed-within n unfailed-feasible = within-feasible
unfailed-within n unfailed-refused = within-refused

fails-within : (k n : ℕ) {q : Pass} → k < n → FailsAt k q → Within n q
fails-within k n h still = within-feasible
fails-within k n h (there {f} e) = within-failed {f = f} (omega arith)
fails-within k n h never = within-refused

module _ (o : Objective) (limit : Float) where
  line-within : (e : List Line) (own : Line) (s : Pass) → Within (length e) s →
      Within (length (e ++ (own ∷ []))) (pass_line o limit e own s)
  unfolding pass_line
  line-within e own s (within-feasible {p} {m}) =
      let k : length (e ++ (own ∷ [])) ≡ length e + 1 = length-append e (own ∷ []) in
      fails-within (length e) (length (e ++ (own ∷ []))) (omega arith) (pass-fails o limit e own p m)
  line-within e own s (within-failed {f} h) =
      let k : length (e ++ (own ∷ [])) ≡ length e + 1 = length-append e (own ∷ []) in
      within-failed {f = f} (omega arith)
  line-within e own s within-refused = within-refused

  pass-within : (l : List Line) → Within (length l) (pass o limit l)
  unfolding pass
  pass-within l = walk-grows (pass_line o limit) (λ e s. Within (length e) s) line-within [] l _
      (unfailed-within 0 (judged-unfailed o _ 0))

-- ---- a whole list of n lines

-- no line failed; or one that is not rigid, and relaxation goes on from it; or a rigid one
pub data Placed (rigid n : ℕ) : Outcome → Type 0 where
  none-failed : {p : Vec2} {m : ℕ} → Placed rigid n (stands (solving p) no_line m)
  beyond-rigid : {p : Vec2} {depth : Float} {f : Failure} {m : ℕ} → rigid ≤ f.index → f.index < n →
      Placed rigid n (stands (relaxing p depth) (failed_line f) m)
  among-rigid : {f : Failure} {p : Vec2} {m : ℕ} → f.index < rigid → f.index < n →
      Placed rigid n (stands (rigid_failure f.index p) (failed_line f) m)
  none-stands : {r : ℕ} → Placed rigid n (refusal r)

relaxed-placed : (rigid n : ℕ) (f : Failure) → rigid ≤ f.index → f.index < n → (s : Relaxed) →
    Placed rigid n (relaxed_outcome (failed_line f) s)
relaxed-placed rigid n f above below (relaxed p depth m) = beyond-rigid above below
relaxed-placed rigid n f above below (relax_refused r) = none-stands

module _ (rigid : ℕ) (limit : Float) (l : List Line) where
  after-placed : {q : Pass} → Within (length l) q → Placed rigid (length l) (after_pass rigid limit l q)
  unfolding after_pass
  after-placed within-feasible = none-failed
  after-placed (within-failed {f} {p} {m} h) =
      if-case (Placed rigid (length l)) (ltb f.index rigid)
      (λ e. among-rigid (ltb-true f.index rigid e) h)
      (λ e. relaxed-placed rigid (length l) f (ltb-false f.index rigid e) h
      (walk (relax_line rigid limit) (take f.index l) (drop f.index l) (relaxed p 0ᶠ m)))
  after-placed within-refused = none-stands

  pub failed-placed : (wish : Vec2) → Placed rigid (length l) (whole_list rigid wish limit l)
  unfolding whole_list
  failed-placed wish = after-placed (pass-within (toward wish) limit l)

  -- whatever failed is a line of the list
  pub failed-below : (wish : Vec2) {ph : Phase} {f : Failure} {m : ℕ} → whole_list rigid wish limit l
      ≡ stands ph (failed_line f) m → f.index < length l
  failed-below wish e = told (rw e at (failed-placed wish))
    where
      told : {ph : Phase} {f : Failure} {m : ℕ} → Placed rigid (length l) (stands ph (failed_line f) m) → f.index < length l
      told (beyond-rigid above below) = below
      told (among-rigid above below) = below
