-- Relaxation over at most 256 lent lines is not refused with 4, and what it counts is bounded. Assumes nothing.
use Prim.Native.Nat.{ℕ, ◌+◌, ◌*◌, ◌≤◌}
use mathlib.Core.Path.{◌≡◌, ◌∙◌}
use mathlib.Core.List.{List, ◌++◌}
use native.Mathlib.Omega.{arith}
use lib.ListN.{length, take, drop, take-append-drop}
use lib.Ieee.{Float}
use borrow.Author.Tests.{le-leb}
use Rattle.arithmetic.specs.Binary32.{when◌then◌else◌}
use Rattle.std.specs.Prelude.{Result, Ok, Err}
use Rattle.admission.specs.declared.refusal.Refusal.{Refusal}
use Rattle.common.specs.declared.Vec2.{Vec2}
use Rattle.lines.specs.declared.Line.{Line}
use Rattle.lines.specs.Lines.{most_lines}
use Rattle.pass_2d.specs.Walk.{walk}
use Rattle.relaxation.specs.Relax.{relaxed, relax_line}
use Rattle.relaxation.specs.Calls.{resumed_relaxation}
use Rattle.relaxation.specs.declared.LinearProgram3D.{LinearProgram3D}
use Rattle.relaxation.specs.Read.{relaxed_of, counted_of}
use Rattle.relaxation.proofs.RelaxedProbes.{CountsRelaxed, counts-relaxed, walk-counts}

module _ (rigid : ℕ) (limit : Float) (l : List Line) (short : length l ≤ most_lines) (from : ℕ) (p : Vec2) (depth : Float) where
  pub few-relaxed : resumed_relaxation rigid limit l from p depth
      ≡ walk (relax_line rigid limit) (take from l) (drop from l) (relaxed p depth 0)
  unfolding resumed_relaxation when◌then◌else◌
  few-relaxed = rw (le-leb (length l) most_lines short)

  -- what the code counts
  pub relaxed-most : (a : Result LinearProgram3D Refusal) → relaxed_of a ≡ resumed_relaxation rigid limit l from p depth → counted_of a ≤ 8421376
  relaxed-most a e = most a (rw (← (e ∙ few-relaxed)) at (walk-counts rigid limit 0 (take from l) (drop from l)
      (relaxed p depth 0) (rw whole short) (counts-relaxed (omega arith))))
    where
      whole : take from l ++ drop from l ≡ l
      whole = take-append-drop from l

      most : (a : Result LinearProgram3D Refusal) → CountsRelaxed (0 + 32896 * length (take from l ++ drop from l)) (relaxed_of a) →
          counted_of a ≤ 8421376
      most (Ok s) (counts-relaxed k) = let fits = rw whole at k in omega arith
      most (Err r) k = omega arith
