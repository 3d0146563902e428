-- `boltmeadow::logs::bm_build_index` meets its contract. Assumes nothing.
use Rattle.boltmeadow.proofs.LeftLaws.{index-left}
use Rattle.boltmeadow.proofs.logs.bm_build_index.Goals as goal

pub returns : goal.returns
returns c = index-left c.build_index-built.result c.written.ensures c.build_index-built.ensures
