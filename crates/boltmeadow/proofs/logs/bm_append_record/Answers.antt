-- `boltmeadow::logs::bm_append_record` meets its contract. Assumes nothing.
use Rattle.boltmeadow.proofs.LeftLaws.{index-left}
use Rattle.boltmeadow.proofs.logs.bm_append_record.Goals as goal

pub returns : goal.returns
returns c = index-left c.append_record.result c.written.ensures c.append_record.ensures
