-- `boltmeadow::scenes::bm_answer_record` meets its contract. Assumes nothing.
use Rattle.std.specs.Prelude.{Ok, Err}
use Rattle.boltmeadow.proofs.LeftLaws.{answer-left, numbers-told}
use Rattle.boltmeadow.proofs.scenes.bm_answer_record.Goals as goal

pub returns-in-Ok : goal.returns-in-Ok
returns-in-Ok c = record {
  answer = answer-left {a = Ok c.in-Ok.answered} c.outcome_with.ensures c.in-Ok.ensures.answer;
  told = numbers-told (Ok c.in-Ok.answered) c.outcome_with.ensures c.in-Ok.ensures.told;
}

pub returns-in-Err : goal.returns-in-Err
returns-in-Err c = record {
  answer = answer-left {a = Err c.in-Err.refusal} c.refused.ensures c.in-Err.ensures.answer;
  told = numbers-told (Err c.in-Err.refusal) c.refused.ensures c.in-Err.ensures.told;
}
