-- `boltmeadow::logs::replied` meets its contract. Assumes nothing.
use mathlib.Core.Path.{refl}
use Rattle.boltmeadow.specs.Logs.{reply}
use Rattle.boltmeadow.proofs.logs.replied.Goals as goal

pub returns : goal.returns
unfolding reply
returns c = refl
