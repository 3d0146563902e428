-- `fallback_index::questions::judge_places` meets its contract. Assumes nothing.
use Rattle.answer_records.proofs.ReplyLaws.{and-told}
use Rattle.fallback_index.specs.Questions.{places_fault}
use Rattle.fallback_index.proofs.questions.judge_places.Goals as goal

pub returns : goal.returns
unfolding places_fault
returns c = simp (c.and.ensures, and-told, c.judge_range-range.ensures, c.unless-log.ensures)
