-- `boltmeadow::scenes::bm_to_version_2` meets its contract. Assumes nothing.
use borrow.Author.Rules.{rules}
use Rattle.boltmeadow.proofs.LeftLaws.{written-left}
use Rattle.boltmeadow.proofs.scenes.bm_to_version_2.Goals as goal

pub returns : goal.returns
returns c = written-left _ c.written.ensures (search rules)
