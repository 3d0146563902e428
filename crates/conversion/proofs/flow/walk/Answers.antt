use Rattle.std.proofs.Common.{arith}
use Rattle.conversion.proofs.LoopLaws.{begins, advance, goes_on_lem, ends}
use Rattle.conversion.proofs.flow.walk.Goals as goal

pub loop-behind-init : goal.loop-behind-init
loop-behind-init c = begins _ _ _ _ c.requires

pub step-requires : goal.step-requires
step-requires c = let room = c.loop-behind.invariant.room in (room.inside, room.fits, room.wide)

pub loop-behind-smaller : goal.loop-behind-smaller
loop-behind-smaller c =
    let l = c.loop-behind in
    let on = rw c.in-Ok-Some.field-0-is at c.in-Ok-Some.ensures in
    let t = advance _ _ _ _ _ _ l.invariant _ _ on in
    omega (arith, t.moves, t.room.inside)

pub loop-behind-preserved : goal.loop-behind-preserved
loop-behind-preserved c =
    let l = c.loop-behind in
    goes_on_lem _ _ _ _ _ _ l.invariant _ _ (rw c.in-Ok-Some.field-0-is at c.in-Ok-Some.ensures)

pub returns-in-Ok-None : goal.returns-in-Ok-None
returns-in-Ok-None c =
    ends _ _ _ _ _ _ c.loop-behind.invariant _ _ (rw c.in-Ok-None.field-0-is at c.in-Ok-None.ensures)

pub returns-in-Err : goal.returns-in-Err
returns-in-Err c = ends _ _ _ _ _ _ c.loop-behind.invariant _ _ c.in-Err.ensures
