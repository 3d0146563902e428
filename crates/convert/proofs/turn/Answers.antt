-- `convert::turn` meets its contract. Assumes nothing.
use Rattle.std.proofs.Common.{arith, refl}
use Rattle.conversion.proofs.TurnLaws.{put-fits, follows, stays-ready}
use Rattle.convert.specs.Turns.{brought-some}
use Rattle.convert.proofs.turn.Goals as goal

pub slice_bounds-write-end : goal.slice_bounds-write-end
slice_bounds-write-end g c = omega (arith, put-fits _ _ _ _ _ _ _ _ c.turn-next.ensures)

pub returns-clause-goes_on : goal.returns-clause-goes_on
returns-clause-goes_on g c =
    let a = c.args in
    brought-some _ refl (follows a.to a.input.now a.output.now _ _ c.read.new.input a.before _ _ c.requires
    c.turn-next.ensures c.read.auto.input c.in_ok-brought.ensures)

pub returns-clause-ready : goal.returns-clause-ready
returns-clause-ready g c =
    let a = c.args in
    stays-ready a.to a.input.now a.output.now _ _ c.read.new.input a.before _ _ c.requires c.turn-next.ensures
    (omega (arith, c.turn-next.auto.input)) (omega (arith, c.turn-next.auto.output))
