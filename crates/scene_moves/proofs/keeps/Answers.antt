-- `scene_moves::keeps` meets its contract. Assumes nothing.
use mathlib.Core.Path.{◌∙◌}
use Rattle.scene_moves.proofs.ZeroLaws.{zero_all}
use Rattle.scene_moves.proofs.keeps.Goals as goal

pub returns-in-One : goal.returns-in-One
returns-in-One c = rw c.in-One.is (c.is_zero.ensures ∙ zero_all _)
