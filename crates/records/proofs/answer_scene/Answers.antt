-- `records::answer_scene` meets its contract. Assumes nothing.
use Rattle.std.proofs.Common.{◌≡◌, length, rules, refl}
use Rattle.scene_records.proofs.Chains.{result-exit}
use Rattle.records.proofs.AnsweredLaws.{no-room-solved, refused-solved, outcome-solved, solved-told}
use Rattle.records.proofs.answer_scene.Goals as goal

pub returns-then-buffer-lt-BYTES : goal.returns-then-buffer-lt-BYTES
returns-then-buffer-lt-BYTES c =
    let a = c.args in
    let solved = no-room-solved a.bytes.now a.buffer.now c.if-buffer-lt-BYTES.true in
    record { answer = solved; told = solved-told _ _ solved }

pub returns-in-Err : goal.returns-in-Err
returns-in-Err c =
    let a = c.args in
    let solved = refused-solved a.bytes.now a.buffer.now c.if-buffer-lt-BYTES.false _ (rw c.in-Err.is at c.read_scene-read.ensures.answer) in
    record { answer = solved; told = solved-told _ _ solved }

pub returns-in_err-answer : goal.returns-in_err-answer
returns-in_err-answer c =
    let a = c.args in
    let size : length c.in-Ok.read.scene.lines ≡ 256 = search rules in
    let solved = outcome-solved a.bytes.now a.buffer.now c.if-buffer-lt-BYTES.false _ (rw c.in-Ok.is at c.read_scene-read.ensures.answer) size _
    (rw c.bare-bare.ensures at c.in_err-answer.ensures.answer) _ refl in
    rw (result-exit c.from_residual.result _ c.from_residual.ensures.1)
    (record { answer = solved; told = solved-told _ _ solved })

pub returns : goal.returns
returns c =
    let a = c.args in
    let size : length c.in-Ok.read.scene.lines ≡ 256 = search rules in
    let solved = outcome-solved a.bytes.now a.buffer.now c.if-buffer-lt-BYTES.false _ (rw c.in-Ok.is at c.read_scene-read.ensures.answer) size _
    (rw c.bare-bare.ensures at c.in_ok-answer.ensures.answer) _ c.write_outcome.ensures in
    record { answer = solved; told = solved-told _ _ solved }
