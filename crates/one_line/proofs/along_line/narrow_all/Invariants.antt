-- `one_line::along_line::narrow_all` meets its contract. The invariant: the lines from i on narrow what is left to the
-- same interval. Assumes nothing.
use mathlib.Core.Path.{◌≡◌}
use mathlib.Core.List.{foldl}
use lib.ListN.{drop}
use Rattle.lines.specs.Lines.{lines_of}
use Rattle.one_line.specs.OneLine.{between, narrow}
use Rattle.one_line.proofs.along_line.narrow_all.Given as goal

abbrev pub invariant-loop-i : goal.invariant-loop-i
invariant-loop-i l = foldl (narrow l.line) (between l.fn.chord.left l.fn.chord.right 0) (lines_of l.lines)
    ≡ foldl (narrow l.line) (between l.ends.left l.ends.right l.i) (drop l.i (lines_of l.lines))
