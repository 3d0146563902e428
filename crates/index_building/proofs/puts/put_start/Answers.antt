-- `index_building::puts::put_start` meets its contract. Assumes nothing.
use Rattle.index_building.proofs.PutLaws.{start-put}
use Rattle.index_building.proofs.puts.put_start.Goals as goal

pub returns : goal.returns
returns c = start-put _ _ _ _ _ c.put_head.ensures
    c.put_entry.ensures
