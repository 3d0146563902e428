-- How many lines the solve of a line looked at; and which variant the answer of a pass is where a `match` left it: what
-- ended stays. Assumes nothing.
use Prim.Native.Nat.{ℕ, ◌+◌, ◌*◌, ◌≤◌, ◌<◌}
use mathlib.Core.Path.{◌≡◌, refl, sym}
use mathlib.Core.List.{List, []}
use native.Mathlib.Omega.{arith}
use lib.ListN.{length, take}
use lib.Seq.{length-take-le}
use lib.Ieee.{Float}
use Rattle.std.specs.Prelude.{Result, Ok, Err}
use Rattle.admission.specs.declared.refusal.Refusal.{Refusal}
use Rattle.common.specs.declared.Vec2.{Vec2}
use Rattle.lines.specs.declared.Line.{Line}
use Rattle.lines.specs.Lines.{most_lines, lines_of}
use Rattle.lines.proofs.Rows.{lines_fit}
use Rattle.one_line.specs.declared.AlongLine.{AlongLine}
use Rattle.one_line.specs.declared.EndsCrossed.{EndsCrossed}
use Rattle.one_line.specs.Read.{found_of, looked_of}
use Rattle.one_line.proofs.Variants.{looked-most}
use Rattle.pass_2d.specs.declared.LinearProgram2D.{LinearProgram2D}
use Rattle.pass_2d.specs.declared.LinearProgram2D.TheVariants as lp2d
use Rattle.one_line.specs.OneLine.{Objective, one_line}
use Rattle.pass_2d.specs.Pass.{start, judged, pass_line, pass}
use Rattle.pass_2d.specs.Read.{pass_of}
use Rattle.pass_2d.proofs.WalkLaws.{walk-stays}

-- the solve of one of 256 lines looks at fewer
pub few-looked : (o : Objective) (limit : Float) (own : Line) (xs : List Float) (index : ℕ) → 4 * index + 4 ≤ length xs
    → index < most_lines → (a : Result AlongLine EndsCrossed) →
    found_of a ≡ one_line o limit own (take index (lines_of xs)) → looked_of a < most_lines
few-looked o limit own xs index room few a h =
    let short = length-take-le index (lines_of xs) (lines_fit xs index (omega arith)) in
    omega (arith, short, looked-most o limit own (take index (lines_of xs)) a h)

-- a pass that failed or was refused stays so
pub ended-stays : (o : Objective) (limit : Float) (a : Result LinearProgram2D Refusal) →
    ((p : Vec2) (n : ℕ) → a ≡ Ok (lp2d.Feasible p n) → ⊥) →
    (e : List Line) (x : Line) → pass_line o limit e x (pass_of a) ≡ pass_of a
unfolding pass_line
ended-stays o limit (Ok (lp2d.Feasible p n)) h e x = absurd (h p n refl)
ended-stays o limit (Ok (lp2d.Infeasible f p n)) h e x = refl
ended-stays o limit (Err r) h e x = refl

-- so does one that failed, as the loop has it
pub failed-stays : (o : Objective) (limit : Float) (a : LinearProgram2D) → ((p : Vec2) (n : ℕ) → a ≡ lp2d.Feasible p n → ⊥) →
    (e : List Line) (x : Line) → pass_line o limit e x (pass_of (Ok a)) ≡ pass_of (Ok a)
unfolding pass_line
failed-stays o limit (lp2d.Feasible p n) h e x = absurd (h p n refl)
failed-stays o limit (lp2d.Infeasible f p n) h e x = refl

-- and so a starting point that is refused is the whole pass
pub ended-start : (o : Objective) (limit : Float) (a : Result LinearProgram2D Refusal) →
    ((p : Vec2) (n : ℕ) → a ≡ Ok (lp2d.Feasible p n) → ⊥) → (l : List Line) →
    pass_of a ≡ judged o (start o limit) 0 → pass_of a ≡ pass o limit l
unfolding pass
ended-start o limit a h l e = rw (← e) (sym (walk-stays (pass_line o limit) (pass_of a) (ended-stays o limit a h) [] l))
