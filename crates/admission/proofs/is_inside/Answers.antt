-- `admission::is_inside` meets its contract. Assumes nothing.
use Rattle.admission.specs.Faults.{inside}
use Rattle.admission.proofs.is_inside.Goals as goal

pub returns-then-low-x : goal.returns-then-low-x
unfolding inside
returns-then-low-x c = simp c.if-low-x.true

pub returns-else-low-x : goal.returns-else-low-x
unfolding inside
returns-else-low-x c = simp c.if-low-x.false
