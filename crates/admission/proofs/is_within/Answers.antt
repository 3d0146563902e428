-- `admission::is_within` meets its contract. Assumes nothing.
use mathlib.Core.Path.{◌∙◌, sym}
use Rattle.arithmetic.proofs.Between.{abs-between}
use Rattle.admission.specs.Faults.{within, inside}
use Rattle.admission.proofs.is_within.Goals as goal

pub returns : goal.returns
unfolding within inside
returns c = c.is_inside.ensures ∙ sym (abs-between _ _)
