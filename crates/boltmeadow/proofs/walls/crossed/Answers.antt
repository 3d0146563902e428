-- `boltmeadow::walls::crossed` meets its contract. Assumes nothing.
use mathlib.Core.Path.{refl}
use Rattle.boltmeadow.specs.Layouts.{crossing}
use Rattle.boltmeadow.proofs.walls.crossed.Goals as goal

pub returns : goal.returns
unfolding crossing
returns c = refl
