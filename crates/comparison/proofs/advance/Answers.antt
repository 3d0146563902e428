use native.Mathlib.Omega.{arith}
use mathlib.Core.Path.{sym, ◌∙◌}
use Rattle.comparison.proofs.TurnLaws.{stays, from_start, part-reach, goes_on, stops}
use Rattle.comparison.proofs.advance.Goals as goal

pub loop-j-init : goal.loop-j-init
loop-j-init c = let a = c.args in from_start a.ours.now a.theirs.now a.place

pub loop-j-smaller : goal.loop-j-smaller
loop-j-smaller c =
    let l = c.loop-j in
    let a = c.args in
    let read = rw c.in-Onward.is at c.part_turn-turn.ensures in
    let far = part-reach a.ours.now a.theirs.now l.at l.by l.next read in
    omega (arith, far.0, far.1)

pub loop-j-preserved : goal.loop-j-preserved
loop-j-preserved c =
    let l = c.loop-j in
    let a = c.args in
    let read = rw c.in-Onward.is at c.part_turn-turn.ensures in
    rw c.next_place-next.ensures (l.invariant ∙ goes_on a.ours.now a.theirs.now l.at l.by l.next read)

pub returns-in_default : goal.returns-in_default
returns-in_default c =
    let l = c.loop-j in
    let a = c.args in
    c.stopped.ensures ∙ sym (l.invariant ∙ stops a.ours.now a.theirs.now l.at l.by l.next
    c.part_turn-turn.ensures (stays _ c.in_default.not-Onward))
