-- `relaxation::solve_3d::relax_from` meets its contract. The invariant: the lines from i on take value and penetration
-- now to the same end. Assumes nothing.
use Prim.Native.Nat.{◌*◌, ◌≤◌}
use mathlib.Core.Path.{◌≡◌}
use lib.ListN.{take, drop}
use Rattle.pass_2d.specs.Walk.{walk}
use Rattle.lines.specs.Lines.{lines_of}
use Rattle.relaxation.specs.Relax.{relaxed, relax_line}
use Rattle.relaxation.proofs.solve_3d.relax_from.Given as goal

abbrev pub invariant-loop-i : goal.invariant-loop-i
invariant-loop-i l = (l.relaxed.probes ≤ 32896 * l.i)
    × (walk (relax_line l.rigid l.radius) (take l.from (lines_of l.lines)) (drop l.from (lines_of l.lines))
    (relaxed l.fn.value l.fn.penetration 0)
    ≡ walk (relax_line l.rigid l.radius) (take l.i (lines_of l.lines)) (drop l.i (lines_of l.lines))
    (relaxed l.relaxed.point l.relaxed.penetration l.relaxed.probes))
