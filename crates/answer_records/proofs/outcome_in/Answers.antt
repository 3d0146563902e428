-- `answer_records::outcome_in` meets its contract. Assumes nothing.
use Rattle.answer_records.specs.Replies.{outcome_in}
use Rattle.answer_records.proofs.outcome_in.Goals as goal

pub returns : goal.returns
unfolding outcome_in
returns c = simp (
  ← c.word_at-3.ensures,
  ← c.pair_at.ensures,
  ← c.word_at-2.ensures,
  ← c.word_at.ensures,
)
