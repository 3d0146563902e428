-- `answer_logs::waits` meets its contract. Assumes nothing.
use native.Mathlib.Omega.{arith}
use Rattle.answer_logs.proofs.PartLaws.{waits-short, waits-overlong, waits-by-size}
use Rattle.answer_logs.proofs.waits.Goals as goal

pub returns-then-part-at : goal.returns-then-part-at
returns-then-part-at c = let a = c.args in waits-short a.part.now a.at (omega arith)

pub returns-then-there-lt2 : goal.returns-then-there-lt2
returns-then-there-lt2 c = let a = c.args in waits-short a.part.now a.at c.if-there-lt2.true

pub returns-then-size-gt-BYTES : goal.returns-then-size-gt-BYTES
returns-then-size-gt-BYTES c =
    let a = c.args in
    waits-overlong a.part.now a.at c.if-there-lt2.false c.pair_at.ensures c.if-size-gt-BYTES.true

pub returns : goal.returns
returns c =
    let a = c.args in
    waits-by-size a.part.now a.at c.if-there-lt2.false c.pair_at.ensures c.if-size-gt-BYTES.false
