-- `answer_records::write_answer` meets its contract. Assumes nothing.
use Rattle.std.proofs.Common.{arith, length-set}
use Rattle.answer_records.proofs.WrittenLaws.{no_room, stored}
use Rattle.answer_records.proofs.write_answer.Goals as goal

pub returns-then-buffer-lt-BYTES : goal.returns-then-buffer-lt-BYTES
returns-then-buffer-lt-BYTES c = no_room _ _ c.if-buffer-lt-BYTES.true

pub bounds-buffer-3 : goal.bounds-buffer-3
bounds-buffer-3 c = simp length-set (omega arith)

pub shape_of-buffer : goal.shape_of-buffer
shape_of-buffer c =
    omega (
      arith,
      c.put_word-3.auto.s,
      c.put_pair-2.auto.s,
      c.put_word-2.auto.s,
      simp length-set at c.put_word.auto.s,
      c.put_pair.auto.s,
    )

pub returns : goal.returns
returns c =
    let a = c.args in
    stored a.answer a.buffer.now _ _ _ _ _ c.if-buffer-lt-BYTES.false c.put_pair.ensures c.put_word.ensures
    c.put_word-2.ensures c.put_pair-2.ensures c.put_word-3.ensures
