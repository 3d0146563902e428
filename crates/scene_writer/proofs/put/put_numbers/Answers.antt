use mathlib.Core.Path.{sym, ◌∙◌}
use Rattle.scene_writer.proofs.PutLaws.{numbers-done, numbers-next}
use Rattle.scene_writer.proofs.put.put_numbers.Goals as goal

pub loop-k-preserved : goal.loop-k-preserved
loop-k-preserved c =
    let l = c.loop-k in
    l.invariant ∙ numbers-next c.args.numbers.now c.args.at l.buffer _ l.k c.loop-k-test.true c.put_number.ensures

pub returns : goal.returns
returns c =
    let l = c.loop-k in
    numbers-done c.args.numbers.now c.args.at l.buffer l.k c.loop-k-test.false ∙ sym l.invariant
