-- `tally::tally_read` meets its contract. Assumes nothing.
use Rattle.tally.proofs.TurnLaws.{refused-read, whole-read, step}
use Rattle.tally.proofs.tally_read.Goals as goal

pub returns-in-Ok : goal.returns-in-Ok
unfolding step
returns-in-Ok c =
    let a = c.args in
    whole-read a.input.now a.there a.before c.requires _ (rw c.in-Ok.is at c.advance.ensures) _ _ c.keep.ensures

pub returns-in-Err : goal.returns-in-Err
unfolding step
returns-in-Err c =
    let a = c.args in
    refused-read a.input.now a.there a.before c.requires _ (rw c.in-Err.is at c.advance.ensures)
