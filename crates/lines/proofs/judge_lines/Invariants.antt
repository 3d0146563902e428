-- `lines::judge_lines` meets its contract. The invariant: the lines before i pass. Assumes nothing.
use mathlib.Core.Path.{◌≡◌}
use lib.ListN.{take, drop}
use Rattle.lines.specs.Lines.{lines_of}
use Rattle.lines.specs.LineFaults.{lines_fault}
use Rattle.lines.proofs.judge_lines.Given as goal

abbrev pub invariant-loop-i : goal.invariant-loop-i
invariant-loop-i l = lines_fault (lines_of l.numbers) ≡ lines_fault (drop l.i (take l.i-end (lines_of l.numbers)))
