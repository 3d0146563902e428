-- `boltmeadow::logs::paged` meets its contract. Assumes nothing.
use mathlib.Core.Path.{refl}
use Rattle.boltmeadow.specs.Logs.{page}
use Rattle.boltmeadow.proofs.logs.paged.Goals as goal

pub returns : goal.returns
unfolding page
returns c = refl
