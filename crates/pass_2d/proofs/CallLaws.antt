-- A pass over at most 256 lent lines is not refused with 4, and what it counts is bounded. Assumes nothing.
use Prim.Native.Nat.{ℕ, ◌≤◌}
use mathlib.Core.Path.{◌≡◌, ◌∙◌}
use mathlib.Core.List.{List}
use native.Mathlib.Omega.{arith}
use lib.ListN.{length, take, drop, take-append-drop}
use lib.Ieee.{Float}
use borrow.Author.Tests.{le-leb}
use Rattle.arithmetic.specs.Binary32.{when◌then◌else◌}
use Rattle.std.specs.Prelude.{Result, Ok, Err}
use Rattle.admission.specs.declared.refusal.Refusal.{Refusal}
use Rattle.common.specs.declared.Vec2.{Vec2}
use Rattle.lines.specs.declared.Line.{Line}
use Rattle.lines.specs.Lines.{most_lines}
use Rattle.one_line.specs.OneLine.{Objective}
use Rattle.pass_2d.specs.declared.LinearProgram2D.{LinearProgram2D}
use Rattle.pass_2d.specs.declared.LinearProgram2D.TheVariants as lp2d
use Rattle.pass_2d.specs.Walk.{walk}
use Rattle.pass_2d.specs.Pass.{feasible, pass_line, pass}
use Rattle.pass_2d.specs.Calls.{pass_call, resumed_pass}
use Rattle.pass_2d.specs.Read.{pass_of, probes_of}
use Rattle.pass_2d.proofs.Probes.{Takes, takes, takes-failed, pass-takes, bound-grows}
use Rattle.pass_2d.proofs.PassLaws.{pass-most}

module _ (o : Objective) (limit : Float) (l : List Line) (short : length l ≤ most_lines) where
  pub few-called : pass_call o limit l ≡ pass o limit l
  unfolding pass_call when◌then◌else◌
  few-called = rw (le-leb (length l) most_lines short)

  pub few-resumed : (from : ℕ) (p : Vec2) → resumed_pass o limit l from p
      ≡ walk (pass_line o limit) (take from l) (drop from l) (feasible p 0)
  unfolding resumed_pass when◌then◌else◌
  few-resumed from p = rw (le-leb (length l) most_lines short)

  -- what the code counts
  pub called-most : (a : Result LinearProgram2D Refusal) → pass_of a ≡ pass_call o limit l → probes_of a ≤ 65536
  called-most a e = most a (rw (← (e ∙ few-called)) at (pass-takes o limit l))
    where
      most : (a : Result LinearProgram2D Refusal) → Takes (length l) (pass_of a) → probes_of a ≤ 65536
      most (Ok (lp2d.Feasible p n)) (takes h b) = omega (arith, bound-grows most_lines (length l) n short b)
      most (Ok (lp2d.Infeasible f p n)) (takes-failed b) = omega (arith, bound-grows most_lines (length l) n short b)
      most (Err r) t = omega arith

  pub resumed-most : (from : ℕ) (p : Vec2) (a : Result LinearProgram2D Refusal) → pass_of a ≡ resumed_pass o limit l from p → probes_of a ≤ 65536
  resumed-most from p a e =
      pass-most o limit (take from l) (drop from l) p a (rw (take-append-drop from l) short) (e ∙ few-resumed from p)
