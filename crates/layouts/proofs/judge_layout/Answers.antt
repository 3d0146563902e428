use mathlib.Core.Path.{sym, ◌∙◌}
use native.Mathlib.Omega.{arith}
use native.Mathlib.Nat.{sub-zero, zero-add}
use lib.ListN.{drop}
use borrow.Author.Tests.{leb-true}
use Rattle.std.proofs.lemmas.Result.{err_from_is_err_and}
use Rattle.admission.proofs.FaultLaws.{must-fine}
use Rattle.layouts.specs.Layouts.{layout_in, layout_fault}
use Rattle.layouts.proofs.LentInOrder.{front_of, lent-on, lent-stop, lent-done, total-on, total-done, own_room, own-there, told-fault, told-total}
use Rattle.layouts.proofs.judge_layout.Goals as goal

pub returns-in_err-unless : goal.returns-in_err-unless
unfolding layout_in layout_fault
returns-in_err-unless c =
    let e = err_from_is_err_and c.from_residual.result c.from_residual.ensures.1 in
    rw (e.1, e.2) (simp (← c.in_err-unless.ensures))

pub loop-i-init : goal.loop-i-init
loop-i-init c = (omega arith, rw sub-zero, rw (sub-zero, zero-add), omega arith)

pub returns-in_err-total : goal.returns-in_err-total
returns-in_err-total c =
    let e = err_from_is_err_and c.from_residual-in_err-total.result c.from_residual-in_err-total.ensures.1 in
    let a = c.args in
    let l = c.loop-i in
    let few = leb-true _ _ (must-fine _ 4 (sym c.in_ok-unless.ensures)) in
    rw (e.1, e.2) (told-fault a.kinds.now a.counts.now a.vertices.now a.obstacles _ few
    (l.invariant.1 ∙ lent-stop a.kinds.now a.counts.now a.vertices.now a.obstacles l.i l.total _ (omega arith)
    c.in_err-total.ensures.fault))

pub loop-i-preserved : goal.loop-i-preserved
loop-i-preserved c =
    let a = c.args in
    let l = c.loop-i in
    let many = c.in_ok-total.ensures.count in
    let step = c.in_ok-total.ensures.fault in
    let room = rw (front_of a.counts.now l.i) at (own_room l.total _ (drop l.i a.counts.now) _ (sym step)) in
    let on = lent-on a.kinds.now a.counts.now a.vertices.now a.obstacles l.i l.total (omega arith) step in
    let more = total-on a.kinds.now a.counts.now a.vertices.now a.obstacles l.i l.total (omega arith) in
    let there = rw (front_of a.counts.now l.i) at (own-there l.total _ (drop l.i a.counts.now) a.vertices.now l.invariant.3 (sym step)) in
    (omega (arith, room.1, many), rw many (l.invariant.1 ∙ on), rw many (omega (arith, l.invariant.2, more)), rw many there)

pub returns : goal.returns
returns c =
    let a = c.args in
    let l = c.loop-i in
    let few = leb-true _ _ (must-fine _ 4 (sym c.in_ok-unless.ensures)) in
    let all = lent-done a.kinds.now a.counts.now a.vertices.now a.obstacles l.i l.total (omega arith) in
    let none = total-done a.kinds.now a.counts.now a.vertices.now a.obstacles l.i l.total (omega arith) in
    told-total a.kinds.now a.counts.now a.vertices.now a.obstacles l.total few (l.invariant.1 ∙ all)
    (omega (arith, l.invariant.2, none))
