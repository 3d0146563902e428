-- `relaxation::solve_3d::tighten_into` meets its contract. The invariant: the lines from i on, tightened behind the
-- first n that are made, give the same list. Assumes nothing.
use Prim.Native.Nat.{◌≤◌}
use mathlib.Core.Path.{◌≡◌}
use mathlib.Core.List.{foldl}
use lib.ListN.{length, take, drop}
use Rattle.lines.specs.Lines.{lines_of}
use Rattle.relaxation.specs.Relax.{tighten_next, tightened}
use Rattle.relaxation.proofs.solve_3d.tighten_into.Given as goal

abbrev pub invariant-loop-i : goal.invariant-loop-i
invariant-loop-i l = (l.n ≤ l.i) × (length l.tight ≡ 1020)
    × (tightened l.rigid l.fn.constraint (lines_of l.earlier)
    ≡ foldl (tighten_next l.fn.constraint) (take l.n (lines_of l.tight)) (drop l.i (lines_of l.earlier)))
