-- `replay_cuts::walked` meets its contract: it ends, since each turn leaves fewer indices. Assumes nothing.
use Rattle.replay_cuts.proofs.walked.Given as goal

abbrev pub decreases-loop-walk : goal.decreases-loop-walk
decreases-loop-walk l = l.walk.left
