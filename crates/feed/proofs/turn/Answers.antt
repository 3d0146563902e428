-- `feed::turn` meets its contract. Assumes nothing.
use Rattle.std.proofs.Common.{arith}
use Rattle.records.proofs.TurnLaws.{put-fits, follows, follows-closed, stays-ready}
use Rattle.feed.proofs.turn.Goals as goal

pub slice_bounds-write-end : goal.slice_bounds-write-end
slice_bounds-write-end g c = omega (arith, put-fits _ _ _ _ _ _ _ c.turn-next.ensures)

pub returns-then-write-clause-follows : goal.returns-then-write-clause-follows
returns-then-write-clause-follows g c =
    follows c.args.input.now c.args.output.now _ _ c.read-brought.new.input c.args.before _ c.read-brought.result
    c.requires c.turn-next.ensures c.read-brought.auto.input c.read-brought.ensures

pub returns-then-write-clause-ready : goal.returns-then-write-clause-ready
returns-then-write-clause-ready g c =
    stays-ready c.args.input.now c.args.output.now _ _ c.read-brought.new.input c.args.before _ c.read-brought.result
    c.requires c.turn-next.ensures (omega (arith, c.turn-next.auto.input)) (omega (arith, c.turn-next.auto.output))

pub returns-clause-follows : goal.returns-clause-follows
returns-clause-follows g c =
    follows-closed c.args.input.now c.args.output.now _ _ c.read-brought.new.input c.args.before _ c.read-brought.result
    c.requires (follows c.args.input.now c.args.output.now _ _ c.read-brought.new.input c.args.before _ c.read-brought.result
    c.requires c.turn-next.ensures c.read-brought.auto.input c.read-brought.ensures)

pub returns-clause-ready : goal.returns-clause-ready
returns-clause-ready g c =
    stays-ready c.args.input.now c.args.output.now _ _ c.read-brought.new.input c.args.before _ c.read-brought.result
    c.requires c.turn-next.ensures (omega (arith, c.turn-next.auto.input)) (omega (arith, c.turn-next.auto.output))
