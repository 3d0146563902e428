-- The line that a failure's cause names comes before the failed one, in every list (`cause-earlier`). Assumes nothing.
use Prim.Native.Nat.{ℕ, ◌+◌}
use mathlib.Core.Path.{◌≡◌}
use mathlib.Core.List.{List, []}
use native.Mathlib.Nat.{zero-add}
use lib.ListN.{length, take, drop}
use lib.Ieee.{Float}
use Rattle.arithmetic.specs.Binary32.{0ᶠ}
use Rattle.arithmetic.proofs.Choice.{if-all}
use Rattle.common.specs.declared.Vec2.{Vec2}
use Rattle.lines.specs.declared.Line.{Line}
use Rattle.pass_2d.specs.Walk.{walk}
use Rattle.one_line.specs.OneLine.{Objective, toward, Found}
use Rattle.pass_2d.specs.Pass.{Failure, Pass, feasible, failed, refused, solved, pass_line, pass}
use Rattle.relaxation.specs.Relax.{Relaxed, relaxed, relax_refused, relax_line}
use Rattle.linear_programming.specs.Whole.{Phase, no_line, failed_line, Outcome, stands, refusal, relaxed_outcome, after_pass, whole_list}
use Rattle.pass_2d.proofs.WalkLaws.{walk-keeps}
use Rattle.one_line.proofs.OneLineLaws.{Earlier, Solves, solves, stops, stops-refused, line-solves}
use Rattle.pass_2d.proofs.PassLaws.{Unfailed, unfailed-feasible, unfailed-refused, judged-unfailed}

-- ---- a pass

data Caused : Pass → Type 0 where
  caused-feasible : {p : Vec2} {n : ℕ} → Caused (feasible p n)
  caused-failed : {f : Failure} {p : Vec2} {n : ℕ} → Earlier f.index f.cause → Caused (failed f p n)
  caused-refused : {r : ℕ} → Caused (refused r)

unfailed-caused : {q : Pass} → Unfailed q → Caused q
unfailed-caused unfailed-feasible = caused-feasible
unfailed-caused unfailed-refused = caused-refused

solved-caused : (o : Objective) (k : ℕ) (p : Vec2) (n : ℕ) {q : Found} → Solves k q → Caused (solved o k p n q)
unfolding solved
solved-caused o k p n (solves {q}) = unfailed-caused (judged-unfailed o q (n + k))
solved-caused o k p n (stops h by) = caused-failed by
solved-caused o k p n stops-refused = caused-refused

line-caused : (o : Objective) (limit : Float) (e : List Line) (own : Line) (s : Pass) → Caused s →
    Caused (pass_line o limit e own s)
unfolding pass_line
line-caused o limit e own s (caused-feasible {p} {n}) =
    if-all Caused _ caused-feasible (solved-caused o (length e) p (n + 1) (rw zero-add at (line-solves o limit own e)))
line-caused o limit e own s (caused-failed by) = caused-failed by
line-caused o limit e own s caused-refused = caused-refused

pass-caused : (o : Objective) (limit : Float) (l : List Line) → Caused (pass o limit l)
unfolding pass
pass-caused o limit l =
    walk-keeps (pass_line o limit) Caused (line-caused o limit) [] l _ (unfailed-caused (judged-unfailed o _ 0))

-- ---- a whole list

data Tells : Outcome → Type 0 where
  tells : {ph : Phase} {f : Failure} {n : ℕ} → Earlier f.index f.cause → Tells (stands ph (failed_line f) n)
  tells_none : {ph : Phase} {n : ℕ} → Tells (stands ph no_line n)
  tells-refusal : {r : ℕ} → Tells (refusal r)

relaxed-tells : (f : Failure) → Earlier f.index f.cause → (s : Relaxed) → Tells (relaxed_outcome (failed_line f) s)
relaxed-tells f by (relaxed p depth n) = tells by
relaxed-tells f by (relax_refused r) = tells-refusal

module _ (rigid : ℕ) (limit : Float) (l : List Line) where
  after-tells : {q : Pass} → Caused q → Tells (after_pass rigid limit l q)
  unfolding after_pass
  after-tells caused-feasible = tells_none
  after-tells (caused-failed {f} {p} {n} by) =
      if-all Tells _ (tells by) (relaxed-tells f by (walk (relax_line rigid limit) (take f.index l)
      (drop f.index l) (relaxed p 0ᶠ n)))
  after-tells caused-refused = tells-refusal

  -- the circle, or a line before the failed one
  pub cause-earlier : (wish : Vec2) {ph : Phase} {f : Failure} {n : ℕ} → whole_list rigid wish limit l
      ≡ stands ph (failed_line f) n → Earlier f.index f.cause
  unfolding whole_list
  cause-earlier wish e = told (rw e at (after-tells (pass-caused (toward wish) limit l)))
    where
      told : {ph : Phase} {f : Failure} {n : ℕ} → Tells (stands ph (failed_line f) n) → Earlier f.index f.cause
      told (tells by) = by
