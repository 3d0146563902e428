-- `answer_records::is_length` meets its contract. Assumes nothing.
use Rattle.std.proofs.Common.{eq-eqb, ne_eqb}
use Rattle.answer_records.specs.Replies.{is_length}
use Rattle.answer_records.proofs.is_length.Goals as goal

pub returns-then-length-eq-LENGTH : goal.returns-then-length-eq-LENGTH
unfolding is_length
returns-then-length-eq-LENGTH c = rw (eq-eqb _ _ c.if-length-eq-LENGTH.true)

pub returns-else-length-eq-LENGTH : goal.returns-else-length-eq-LENGTH
unfolding is_length
returns-else-length-eq-LENGTH c = rw (ne_eqb _ _ c.if-length-eq-LENGTH.false)
