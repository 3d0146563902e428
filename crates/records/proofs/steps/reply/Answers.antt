-- `records::steps::reply` meets its contract. Assumes nothing.
use Rattle.records.proofs.AnsweredLaws.{replied, replied-refusal}
use Rattle.records.proofs.steps.reply.Goals as goal

pub returns-in-Ok : goal.returns-in-Ok
returns-in-Ok c = replied _ _ _ c.requires c.in-Ok.ensures

pub returns-in-Err : goal.returns-in-Err
returns-in-Err c =
    replied-refusal _ _ _ c.requires _ _ _ c.in-Err.ensures (rw c.number.ensures at c.write_refusal.ensures)
