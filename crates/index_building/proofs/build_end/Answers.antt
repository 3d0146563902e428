-- `index_building::build_end` meets its contract. Assumes nothing.
use Rattle.index_building.specs.Builds.{end_over}
use Rattle.index_building.proofs.build_end.Goals as goal

pub returns : goal.returns
unfolding end_over
returns c = c.store_end.ensures
