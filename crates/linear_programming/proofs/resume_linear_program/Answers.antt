-- `linear_programming::resume_linear_program` meets its contract. Assumes nothing.
use mathlib.Core.Path.{sym}
use borrow.Author.Tests.{leb-true}
use native.Mathlib.Omega.{arith}
use lib.Seq.{length-take-le}
use Rattle.lines.proofs.Rows.{lines-take}
use Rattle.std.proofs.lemmas.Result.{err_from_is_err_and}
use Rattle.admission.proofs.FaultLaws.{must-fine}
use Rattle.linear_programming.specs.Resume.{resumed_call}
use Rattle.linear_programming.proofs.resume_linear_program.Goals as goal

pub returns-in_err-unless : goal.returns-in_err-unless
unfolding resumed_call
returns-in_err-unless c =
    let p = err_from_is_err_and c.from_residual.result c.from_residual.ensures.1 in
    simp (p.1, p.2, ← c.in_err-unless.ensures)

pub returns : goal.returns
unfolding resumed_call
returns c =
    let a = c.args in
    let few = leb-true _ _ (must-fine _ 4 (sym c.in_ok-unless.ensures)) in
    let laid = rw (length-take-le a.count a.lines (omega arith)) at c.lay.ensures.1 in
    simp (← c.in_ok-unless.ensures) (rw (lines-take c.lay.new.numbers a.count, laid) at c.resume.ensures)
