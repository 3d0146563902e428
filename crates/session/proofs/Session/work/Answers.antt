-- `session::Session::work` meets its contract. Assumes nothing.
use Rattle.std.proofs.lemmas.Result.{err_from_is_err_and}
use Rattle.linear_programming.proofs.Agreement.{phase-back, failed-back}
use Rattle.session.proofs.BatchWork.{unmap, worked-right}
use Rattle.session.proofs.Session.work.Goals as goal

pub returns-in_err-solved : goal.returns-in_err-solved
returns-in_err-solved c =
    let a = c.args in
    let p = err_from_is_err_and c.from_residual.result c.from_residual.ensures.1 in
    rw (p.1, worked-right a.self.now a.numbers.now a.brought.now (search unmap) c.requires.0 c.with-stored.ensures c.in_err-solved.ensures, p.2)

pub returns : goal.returns
returns c =
    let a = c.args in
    rw (worked-right a.self.now a.numbers.now a.brought.now (search unmap) c.requires.0 c.with-stored.ensures c.in_ok-solved.ensures, c.with-stored.ensures, phase-back, failed-back)
