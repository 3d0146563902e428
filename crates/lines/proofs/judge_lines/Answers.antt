-- `lines::judge_lines` meets its contract. Assumes nothing.
use Prim.Native.Nat.{◌/◌}
use mathlib.Core.Path.{sym, ap, ◌∙◌}
use native.Mathlib.Omega.{arith}
use lib.ListN.{length}
use Rattle.std.proofs.lemmas.Result.{err_from_is_err_and}
use Rattle.lines.specs.Lines.{lines_of, off_line}
use Rattle.lines.specs.LineFaults.{lines_fault}
use Rattle.lines.proofs.Rows.{lines_fit, lines-take-all}
use Rattle.lines.proofs.JudgeLaws.{judged-on, judged-stop, judged-done}
use Rattle.lines.proofs.judge_lines.Goals as goal

pub loop-i-init : goal.loop-i-init
loop-i-init c = ap lines_fault (sym (lines-take-all c.args.numbers.now))

pub returns-in_err-judge_line : goal.returns-in_err-judge_line
returns-in_err-judge_line c =
    let b = c.args.numbers.now in
    let l = c.loop-i in
    let step = rw (c.in_err-judge_line.was, c.line_at.ensures) at c.judge_line.ensures in
    let p = err_from_is_err_and c.from_residual.result c.from_residual.ensures.1 in
    rw (p.1, p.2) (sym (l.invariant ∙ judged-stop (lines_of b) (length b / 4) l.i
    (lines_fit b (length b / 4) (omega arith)) off_line _ (omega arith) step))

pub loop-i-preserved : goal.loop-i-preserved
loop-i-preserved c =
    let b = c.args.numbers.now in
    let l = c.loop-i in
    let step = rw (c.in_ok-judge_line.was, c.line_at.ensures) at c.judge_line.ensures in
    l.invariant ∙ judged-on (lines_of b) (length b / 4) l.i (lines_fit b (length b / 4) (omega arith))
    off_line (omega arith) step

pub returns : goal.returns
returns c =
    let b = c.args.numbers.now in
    let l = c.loop-i in
    sym (l.invariant ∙ judged-done (lines_of b) (length b / 4) l.i (lines_fit b (length b / 4) (omega arith)) (omega arith))
