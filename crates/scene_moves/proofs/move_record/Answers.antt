-- `scene_moves::move_record` meets its contract. Assumes nothing.
use Prim.Native.Nat.{◌+◌, ◌-◌, ◌*◌, ◌≤◌}
use mathlib.Core.Path.{◌≡◌, refl, sym, ◌∙◌}
use mathlib.Core.Bool.{true}
use native.Mathlib.Omega.{arith}
use lib.ListN.{length}
use borrow.Author.Tests.{leb-true}
use Rattle.admission.proofs.FaultLaws.{must-fine}
use Rattle.scene_writer.proofs.Judging.{written-exit}
use Rattle.scene_moves.specs.Moves.{line_size, keeps}
use Rattle.scene_moves.proofs.PutMoves.{lines-few, moved-put}
use Rattle.scene_moves.proofs.ToldMoves.{reads, told-fault, told-lost, told-short, told_moved}
use Rattle.scene_moves.proofs.move_record.Goals as goal

pub returns-in-Err : goal.returns-in-Err
returns-in-Err c =
    told-fault c.args.from c.args.to _ _ _ (rw c.in-Err.is at c.read_scene_of_version-read.ensures.told)

pub overflow_mul-start : goal.overflow_mul-start
overflow_mul-start c =
    let known = reads c.args.from c.args.source.now _ (rw c.in-Ok.is at c.read_scene_of_version-read.ensures.answer) in
    rw c.line_size-old_line.ensures (omega (arith, known.room, known.short))

pub overflow_sub-start : goal.overflow_sub-start
overflow_sub-start c =
    let known = reads c.args.from c.args.source.now _ (rw c.in-Ok.is at c.read_scene_of_version-read.ensures.answer) in
    rw c.line_size-old_line.ensures (omega (arith, known.room))

pub overflow_mul-length : goal.overflow_mul-length
overflow_mul-length c =
    let known = reads c.args.from c.args.source.now _ (rw c.in-Ok.is at c.read_scene_of_version-read.ensures.answer) in
    rw c.line_size-new_line.ensures (omega (arith, known.few, lines-few c.args.to c.in-Ok.read.scene.neighbours))

pub overflow_add-length : goal.overflow_add-length
overflow_add-length c =
    let known = reads c.args.from c.args.source.now _ (rw c.in-Ok.is at c.read_scene_of_version-read.ensures.answer) in
    rw (c.line_size-old_line.ensures, c.line_size-new_line.ensures) (omega (arith, known.few, known.short, lines-few c.args.to c.in-Ok.read.scene.neighbours))

pub returns-in_err-unless : goal.returns-in_err-unless
returns-in_err-unless c =
    let known = reads c.args.from c.args.source.now _ (rw c.in-Ok.is at c.read_scene_of_version-read.ensures.answer) in
    written-exit _ _ _ c.from_residual.ensures.1
    ∙ told-lost c.args.from c.args.to _ _ _ known _ (rw (c.keeps-kept.ensures, known.numbers) at c.in_err-unless.ensures)

pub returns-in_err-unless-2 : goal.returns-in_err-unless-2
returns-in_err-unless-2 c =
    let known = reads c.args.from c.args.source.now _ (rw c.in-Ok.is at c.read_scene_of_version-read.ensures.answer) in
    let kept : keeps c.args.to known.parts ≡ true =
    rw (← known.numbers) (sym c.keeps-kept.ensures ∙ must-fine _ 11 (sym c.in_ok-unless.ensures)) in
    written-exit _ _ _ c.from_residual-in_err-unless-2.ensures.1
    ∙ told-short c.args.from c.args.to _ _ _ known kept _ (rw (c.line_size-old_line.ensures, c.line_size-new_line.ensures) refl) _ c.in_err-unless-2.ensures

pub put_start-requires : goal.put_start-requires
put_start-requires c =
    let a = c.args in
    let known = reads c.args.from c.args.source.now _ (rw c.in-Ok.is at c.read_scene_of_version-read.ensures.answer) in
    let n = c.in-Ok.read.scene.neighbours in
    let room : length a.source.now - line_size a.from * n + line_size a.to * n ≤ length a.buffer.now =
    rw (c.line_size-old_line.ensures, c.line_size-new_line.ensures) at (leb-true _ _ (must-fine _ 10 (sym c.in_ok-unless-2.ensures))) in
    rw (c.line_size-old_line.ensures, c.line_size-new_line.ensures) (
      omega (arith, known.room),
      omega (arith, known.room),
      omega (arith, known.room, room),
      omega (arith, known.room),
      omega (arith, known.few, known.short, lines-few a.to n),
    )

pub put_lines-requires : goal.put_lines-requires
put_lines-requires c =
    let a = c.args in
    let known = reads c.args.from c.args.source.now _ (rw c.in-Ok.is at c.read_scene_of_version-read.ensures.answer) in
    let n = c.in-Ok.read.scene.neighbours in
    let room : length a.source.now - line_size a.from * n + line_size a.to * n ≤ length a.buffer.now =
    rw (c.line_size-old_line.ensures, c.line_size-new_line.ensures) at (leb-true _ _ (must-fine _ 10 (sym c.in_ok-unless-2.ensures))) in
    rw c.line_size-old_line.ensures (omega (arith, known.room), omega (arith, c.put_start.auto.buffer, room))

pub returns : goal.returns
returns c =
    let a = c.args in
    let r = c.in-Ok.read in
    let known = reads c.args.from c.args.source.now _ (rw c.in-Ok.is at c.read_scene_of_version-read.ensures.answer) in
    let kept : keeps c.args.to known.parts ≡ true =
    rw (← known.numbers) (sym c.keeps-kept.ensures ∙ must-fine _ 11 (sym c.in_ok-unless.ensures)) in
    let n = c.in-Ok.read.scene.neighbours in
    let room : length a.source.now - line_size a.from * n + line_size a.to * n ≤ length a.buffer.now =
    rw (c.line_size-old_line.ensures, c.line_size-new_line.ensures) at (leb-true _ _ (must-fine _ 10 (sym c.in_ok-unless-2.ensures))) in
    told_moved a.from a.to a.source.now a.buffer.now r known kept _ (rw (c.line_size-old_line.ensures, c.line_size-new_line.ensures) refl)
    (leb-true _ _ (must-fine _ 10 (sym c.in_ok-unless-2.ensures))) _
    (moved-put a.from a.to r.scene.neighbours a.source.now known.room a.buffer.now _ _
    (rw (c.line_size-old_line.ensures, c.line_size-new_line.ensures) at c.put_start.ensures) (rw c.line_size-old_line.ensures at c.put_lines.ensures))
