-- `boltmeadow::lists::bm_solve_list` meets its contract. Assumes nothing.
use mathlib.Core.Path.{ap, ◌∙◌}
use Rattle.boltmeadow.specs.Lists.{standing_told}
use Rattle.boltmeadow.proofs.LeftLaws.{stands-told}
use Rattle.boltmeadow.proofs.lists.bm_solve_list.Goals as goal

pub returns-in-Ok : goal.returns-in-Ok
returns-in-Ok c = c.standing.ensures ∙ stands-told _ c.in-Ok.ensures

pub returns-in-Err : goal.returns-in-Err
returns-in-Err c = c.refused.ensures ∙ ap standing_told c.in-Err.ensures
