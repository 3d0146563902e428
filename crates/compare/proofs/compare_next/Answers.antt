-- `compare::compare_next` meets its contract. Assumes nothing.
use Rattle.std.proofs.Common.{arith}
use Rattle.compare.proofs.TurnLaws.{ended-advances, going-advances}
use Rattle.compare.proofs.compare_next.Goals as goal

pub returns-in-Some : goal.returns-in-Some
returns-in-Some c =
    let a = c.args in
    ended-advances a.before a.mine a.ours.now a.other a.theirs.now _ c.requires.0 c.requires.1
    c.advance-progress.ensures c.in-Some.is

pub returns : goal.returns
returns c =
    let a = c.args in
    going-advances a.before a.mine a.ours.now a.other a.theirs.now _ c.requires.0 c.requires.1
    c.advance-progress.ensures c.in_default.is _ _ _ _ c.keep.ensures c.keep-2.ensures (omega (arith, c.keep.auto.buffer))
    (omega (arith, c.keep-2.auto.buffer))
