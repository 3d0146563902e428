-- `linear_programming::solve_list::lay` meets its contract. The invariant: the first n lines are laid out. Assumes nothing.
use mathlib.Core.Path.{◌≡◌}
use lib.ListN.{length, take}
use Rattle.lines.specs.Lines.{lines_of}
use Rattle.linear_programming.proofs.solve_list.lay.Given as goal

abbrev pub invariant-loop-n : goal.invariant-loop-n
invariant-loop-n l = (length l.numbers ≡ 1024) × (take l.n (lines_of l.numbers) ≡ take l.n l.lines)
