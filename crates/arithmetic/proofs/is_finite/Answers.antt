-- `arithmetic::is_finite` meets its contract. Assumes nothing.
use Rattle.arithmetic.proofs.Difference.{finite-difference}
use Rattle.arithmetic.proofs.is_finite.Goals as goal

pub returns : goal.returns
returns c = finite-difference c.args.x
