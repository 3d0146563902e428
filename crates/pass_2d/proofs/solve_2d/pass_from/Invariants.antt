-- `pass_2d::solve_2d::pass_from` meets its contract. The invariant: the lines from i on take the point now to the same
-- end. Assumes nothing.
use Prim.Native.Nat.{◌*◌, ◌≤◌}
use mathlib.Core.Path.{◌≡◌}
use lib.ListN.{take, drop}
use Rattle.pass_2d.specs.Walk.{walk}
use Rattle.lines.specs.Lines.{lines_of}
use Rattle.pass_2d.specs.Pass.{feasible, pass_line}
use Rattle.one_line.specs.Read.{objective_of}
use Rattle.pass_2d.proofs.solve_2d.pass_from.Given as goal

abbrev pub invariant-loop-i : goal.invariant-loop-i
invariant-loop-i l = (l.probes ≤ 256 * l.i)
    × (walk (pass_line (objective_of l.optimal_value) l.radius) (take l.from (lines_of l.lines))
    (drop l.from (lines_of l.lines)) (feasible l.initial.best_value 0)
    ≡ walk (pass_line (objective_of l.optimal_value) l.radius) (take l.i (lines_of l.lines)) (drop l.i (lines_of l.lines))
    (feasible l.best_value l.probes))
