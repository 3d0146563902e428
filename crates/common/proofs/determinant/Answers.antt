-- `common::determinant` meets its contract. Assumes nothing.
use mathlib.Core.Path.{refl}
use Rattle.common.specs.Vectors.{determinant_of}
use Rattle.common.proofs.determinant.Goals as goal

pub returns : goal.returns
unfolding determinant_of
returns c = refl
