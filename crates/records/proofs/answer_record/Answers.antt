-- `records::answer_record` meets its contract. Assumes nothing.
use Rattle.records.proofs.AnsweredLaws.{forgotten}
use Rattle.records.proofs.answer_record.Goals as goal

pub returns-in-Ok : goal.returns-in-Ok
returns-in-Ok c = forgotten _ _ _ _ c.in-Ok.ensures.answer

pub returns-in-Err : goal.returns-in-Err
returns-in-Err c = forgotten _ _ _ _ c.in-Err.ensures.answer
