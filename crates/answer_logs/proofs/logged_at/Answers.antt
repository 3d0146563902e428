-- `answer_logs::logged_at` meets its contract. Assumes nothing.
use native.Mathlib.Omega.{arith}
use borrow.Author.Tests.{leb-false}
use mathlib.Core.Path.{refl, ap, ◌∙◌}
use Rattle.std.proofs.lemmas.Result.{err_from_is_err_and}
use Rattle.answer_logs.specs.Logs.{faulty}
use Rattle.answer_logs.proofs.LogLaws.{rule-told, at-end, at_cut, said-placed, at-reply}
use Rattle.answer_logs.proofs.logged_at.Goals as goal

pub returns-then-log-at : goal.returns-then-log-at
returns-then-log-at c = at-end _ _ c.if-log-at.true

pub returns-then-log-at-lt2 : goal.returns-then-log-at-lt2
returns-then-log-at-lt2 c = at_cut _ _ c.if-log-at.false refl (omega arith)

pub returns-in_err-unless : goal.returns-in_err-unless
returns-in_err-unless c =
    let p = err_from_is_err_and c.from_residual.result c.from_residual.ensures.1 in
    let told = rule-told _ _ _ (rw c.in_err-unless.was at c.unless.ensures) in
    rw (p.1, p.2) (ap faulty told.1 ∙ at_cut _ _ c.if-log-at.false c.pair_at.ensures (leb-false _ _ told.0))

pub returns-in-Ok : goal.returns-in-Ok
returns-in-Ok c =
    let a = c.args in
    said-placed _ _ ∙ at-reply a.log.now a.at c.if-log-at.false c.pair_at.ensures (rw c.in-Ok.is at c.read_answer.ensures)

pub returns-in-Err : goal.returns-in-Err
returns-in-Err c =
    let a = c.args in
    at-reply a.log.now a.at c.if-log-at.false c.pair_at.ensures (rw c.in-Err.is at c.read_answer.ensures)
