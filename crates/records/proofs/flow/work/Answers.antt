use native.Mathlib.Omega.{arith}
use Rattle.records.proofs.LoopLaws.{begins, advance, goes_on_lem, ends}
use Rattle.records.proofs.flow.work.Goals as goal

pub loop-next-init : goal.loop-next-init
loop-next-init c = begins _ _ _

pub step-requires : goal.step-requires
step-requires c = (c.loop-next.invariant.inside, c.loop-next.invariant.fits)

pub returns : goal.returns
returns c = ends _ _ _ _ _ c.loop-next.invariant _ c.in_default.ensures

pub loop-next-smaller : goal.loop-next-smaller
loop-next-smaller c =
    let t = advance _ _ _ _ _ c.loop-next.invariant _ _ c.in-Some.ensures in
    omega (arith, t.moves, t.inside)

pub loop-next-preserved : goal.loop-next-preserved
loop-next-preserved c =
    goes_on_lem _ _ _ _ _ c.loop-next.invariant _ _ c.in-Some.ensures
