-- `session::Session::withdraw` meets its contract. Assumes nothing.
use Rattle.std.proofs.Common.{arith}
use Rattle.std.proofs.lemmas.Result.{err_from_is_err_and}
use Rattle.session.specs.Withdrawals.{withdrawn_as}
use Rattle.session.proofs.WithdrawalWork.{below-count, withdrawn-left}
use Rattle.session.proofs.Session.withdraw.Goals as goal

pub returns-in_err-judge_withdrawal : goal.returns-in_err-judge_withdrawal
unfolding withdrawn_as
returns-in_err-judge_withdrawal c =
    let p = err_from_is_err_and c.from_residual.result c.from_residual.ensures.1 in
    rw (p.1, p.2, ← c.in_err-judge_withdrawal.ensures)

pub without-requires : goal.without-requires
without-requires c = let k = below-count _ _ c.in_ok-judge_withdrawal.ensures in (omega arith, k.1)

pub returns-in_err-self : goal.returns-in_err-self
returns-in_err-self c =
    let a = c.args in
    let p = err_from_is_err_and c.from_residual-in_err-self.result c.from_residual-in_err-self.ensures.1 in
    rw (p.1, p.2, withdrawn-left a.self.now a.index c.in_ok-judge_withdrawal.ensures) c.in_err-self.ensures

pub returns : goal.returns
returns c =
    let a = c.args in
    rw (withdrawn-left a.self.now a.index c.in_ok-judge_withdrawal.ensures) c.in_ok-self.ensures
