-- `lines::count_given` meets its contract. Assumes nothing.
use native.Mathlib.Omega.{arith}
use lib.ListN.{length-take}
use Rattle.lines.proofs.Rows.{lines_long}
use Rattle.lines.proofs.count_given.Goals as goal

pub returns-then-count-given : goal.returns-then-count-given
returns-then-count-given c = simp (length-take, lines_long) (omega arith)

pub returns : goal.returns
returns c = simp (length-take, lines_long) (omega arith)
