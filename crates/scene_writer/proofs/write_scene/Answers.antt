-- `scene_writer::write_scene` meets its contract. Assumes nothing.
use mathlib.Core.Path.{sym, ◌∙◌}
use native.Mathlib.Omega.{arith}
use borrow.Author.Tests.{leb-true}
use Rattle.admission.proofs.FaultLaws.{must-fine}
use Rattle.scene_writer.proofs.Judging.{written-exit}
use Rattle.scene_writer.proofs.Accepted.{passed, told-refused, told-short, told-written}
use Rattle.scene_writer.proofs.write_scene.Goals as goal

pub returns-in_err-judge_parts : goal.returns-in_err-judge_parts
returns-in_err-judge_parts c =
    let a = c.args in
    written-exit _ _ _ c.from_residual.ensures.1
    ∙ told-refused a.cart a.obstacles a.kinds.now a.counts.now a.vertices.now a.neighbours a.lines.now a.buffer.now _
    c.in_err-judge_parts.ensures

pub record_length-length-requires : goal.record_length-length-requires
record_length-length-requires c =
    let a = c.args in
    let ok = (passed a.cart a.obstacles a.kinds.now a.counts.now a.vertices.now a.neighbours a.lines.now
    (sym c.in_ok-judge_parts.ensures)).fits in
    (ok.walls.few, omega (arith, ok.walls.vertices, ok.walls.most), omega (arith, ok.lines, ok.few))

pub returns-in_err-unless : goal.returns-in_err-unless
returns-in_err-unless c =
    let a = c.args in
    written-exit _ _ _ c.from_residual-in_err-unless.ensures.1
    ∙ told-short a.cart a.obstacles a.kinds.now a.counts.now a.vertices.now a.neighbours a.lines.now a.buffer.now
    c.in_ok-judge_parts.ensures _ c.record_length-length.ensures _ c.in_err-unless.ensures

pub put_scene-requires : goal.put_scene-requires
put_scene-requires c =
    let a = c.args in
    let ok = (passed a.cart a.obstacles a.kinds.now a.counts.now a.vertices.now a.neighbours a.lines.now
    (sym c.in_ok-judge_parts.ensures)).fits in
    let room = leb-true _ _ (must-fine _ 10 (sym c.in_ok-unless.ensures)) in (
      ok.walls.kinds,
      ok.walls.counts,
      ok.walls.vertices,
      ok.lines,
      ok.walls.few,
      ok.few,
      omega (arith, ok.walls.vertices, ok.walls.most),
      omega (arith, room, c.record_length-length.ensures),
    )

pub returns : goal.returns
returns c =
    let a = c.args in
    told-written a.cart a.obstacles a.kinds.now a.counts.now a.vertices.now a.neighbours a.lines.now a.buffer.now
    c.in_ok-judge_parts.ensures _ c.record_length-length.ensures _ c.in_ok-unless.ensures c.put_scene.ensures
