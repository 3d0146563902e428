use Rattle.std.proofs.Common.{[], sym, ◌∙◌, zero-add, arith, rules}
use Rattle.lines.specs.Lines.{lines_of}
use Rattle.lines.proofs.Rows.{lines_long}
use Rattle.session.specs.Meeting.{unmet_as}
use Rattle.session.proofs.BatchWork.{batch-counts}
use Rattle.session.proofs.MeetingWork.{counted-on, counted_stop, counted-done, unmet-at, unmet-none}
use Rattle.session.proofs.Session.first_unmet.Goals as goal

pub returns-in_err-judge_batch : goal.returns-in_err-judge_batch
unfolding unmet_as
returns-in_err-judge_batch c = search rules

pub loop-i-init : goal.loop-i-init
loop-i-init c = sym (zero-add _)

pub overflow_add-result : goal.overflow_add-result
overflow_add-result c =
    let a = c.args in
    let room = (batch-counts a.self.now.count a.numbers.now [] c.in_ok-judge_batch.ensures).0 in
    omega arith

pub returns-then-not-is_met : goal.returns-then-not-is_met
returns-then-not-is_met c =
    let a = c.args in
    let l = c.loop-i in
    let p = c.point_now-point.result in
    let ls = lines_of a.numbers.now in
    let unmet = sym (rw c.line_at.ensures at c.is_met.ensures) ∙ c.if-not-is_met.true in
    let place = l.invariant ∙ counted_stop p ls l.i (omega (arith, lines_long a.numbers.now)) unmet in
    sym (unmet-at a.self.now a.numbers.now c.in_ok-judge_batch.ensures l.i (omega (arith, lines_long a.numbers.now))
    (rw c.point_now-point.ensures at place))

pub loop-i-preserved : goal.loop-i-preserved
loop-i-preserved c =
    let a = c.args in
    let l = c.loop-i in
    let ls = lines_of a.numbers.now in
    let met = sym (rw c.line_at.ensures at c.is_met.ensures) ∙ c.if-not-is_met.false in
    l.invariant ∙ counted-on c.point_now-point.result ls l.i (omega (arith, lines_long a.numbers.now)) met

pub returns : goal.returns
returns c =
    let a = c.args in
    let l = c.loop-i in
    let ls = lines_of a.numbers.now in
    let place = l.invariant ∙ counted-done c.point_now-point.result ls l.i (omega (arith, lines_long a.numbers.now)) in
    sym (unmet-none a.self.now a.numbers.now c.in_ok-judge_batch.ensures l.i (omega (arith, lines_long a.numbers.now))
    (rw c.point_now-point.ensures at place))
