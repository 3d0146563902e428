use Rattle.std.proofs.Common.{◌/◌, length, ◌∙◌, arith, length-set}
use Rattle.lines.specs.Lines.{lines_of, off_line}
use Rattle.lines.specs.Origins.{unknown}
use Rattle.lines.proofs.Rows.{lines_long}
use Rattle.session.specs.Batches.{origins_for}
use Rattle.session.proofs.StoreLaws.{store-on, store-done, origins-many, origins-each}
use Rattle.session.proofs.Session.with.Goals as goal

pub loop-i-preserved : goal.loop-i-preserved
loop-i-preserved c =
    let a = c.args in
    let l = c.loop-i in
    let xs = a.numbers.now in
    let n = length xs / 4 in
    record {
      lines_long = simp length-set l.invariant.lines_long;
      origins_long = simp length-set l.invariant.origins_long;
      lines = l.invariant.lines ∙ store-on l.lines (lines_of xs) a.self.now.count l.i off_line _
          (omega (arith, lines_long xs)) c.line_at.ensures;
      origins = l.invariant.origins ∙ store-on l.origins (origins_for n a.brought.now) a.self.now.count l.i unknown _
          (omega (arith, origins-many n a.brought.now c.requires.1))
          (c.origin_at.ensures ∙ origins-each n l.i a.brought.now (omega arith));
    }

pub returns : goal.returns
returns c =
    let a = c.args in
    let l = c.loop-i in
    let xs = a.numbers.now in
    let n = length xs / 4 in
    rw (
      lines_long xs,
      l.invariant.lines ∙ store-done l.lines (lines_of xs) a.self.now.count l.i (omega (arith, lines_long xs)),
      l.invariant.origins ∙ store-done l.origins (origins_for n a.brought.now) a.self.now.count l.i
          (omega (arith, origins-many n a.brought.now c.requires.1)),
    )
