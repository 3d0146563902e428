-- `comparison::stopped` meets its contract. Assumes nothing.
use Rattle.comparison.proofs.stopped.Goals as goal

pub returns : goal.returns
returns c = rw c.found_by-found.ensures
