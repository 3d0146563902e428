-- `answer_records::write_refusal` meets its contract. Assumes nothing.
use Rattle.answer_records.proofs.WrittenLaws.{no-room-for-refusal, stored-refusal}
use Rattle.answer_records.proofs.write_refusal.Goals as goal

pub returns-then-buffer-lt-REFUSAL_BYTES : goal.returns-then-buffer-lt-REFUSAL_BYTES
returns-then-buffer-lt-REFUSAL_BYTES c = no-room-for-refusal _ _ c.if-buffer-lt-REFUSAL_BYTES.true

pub returns : goal.returns
returns c = stored-refusal _ _ _ _ c.if-buffer-lt-REFUSAL_BYTES.false
    c.put_pair.ensures c.wrapping_add_u8.ensures.value
