-- `one_line::along_line::point_on` meets its contract. Assumes nothing.
use Rattle.one_line.specs.OneLine.{point_on}
use Rattle.one_line.proofs.along_line.point_on.Goals as goal

pub returns : goal.returns
unfolding point_on
returns c = simp (← c.add.ensures, ← c.mul.ensures)
