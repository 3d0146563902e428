use mathlib.Core.Path.{sym, ◌∙◌}
use Rattle.scene_writer.proofs.Judging.{judged-exit}
use Rattle.scene_writer.proofs.LinesInOrder.{line_on, line-stop, lines-done, too_many, few}
use Rattle.scene_writer.proofs.judge.judge_neighbours.Goals as goal

pub returns-in_err-unless : goal.returns-in_err-unless
returns-in_err-unless c = judged-exit _ _ c.from_residual.ensures.1
    ∙ sym (too_many c.args.lines.now c.args.neighbours _ c.in_err-unless.ensures)

pub returns-in_err-judge_line : goal.returns-in_err-judge_line
returns-in_err-judge_line c =
    let a = c.args in
    let l = c.loop-i in
    judged-exit _ _ c.from_residual-in_err-judge_line.ensures.1
    ∙ sym (few a.lines.now a.neighbours c.in_ok-unless.ensures ∙ l.invariant
    ∙ line-stop a.lines.now a.neighbours l.i _ c.loop-i-test.true c.in_err-judge_line.ensures)

pub loop-i-preserved : goal.loop-i-preserved
loop-i-preserved c =
    let l = c.loop-i in
    l.invariant ∙ line_on c.args.lines.now c.args.neighbours l.i c.loop-i-test.true c.in_ok-judge_line.ensures

pub returns : goal.returns
returns c =
    let a = c.args in
    let l = c.loop-i in
    sym (few a.lines.now a.neighbours c.in_ok-unless.ensures ∙ l.invariant
    ∙ lines-done a.lines.now a.neighbours l.i c.loop-i-test.false)
