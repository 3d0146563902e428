-- `session::Session::without` meets its contract. Assumes nothing.
use Rattle.std.proofs.Common.{◌-◌, ◌*◌, length, arith}
use Rattle.std.proofs.lemmas.Result.{err_from_is_err_and}
use Rattle.session.specs.Withdrawals.{started_with}
use Rattle.session.proofs.WithdrawalWork.{laid-lines, laid-origins}
use Rattle.session.proofs.Session.without.Goals as goal

pub returns-in_err-fresh : goal.returns-in_err-fresh
unfolding started_with
returns-in_err-fresh c =
    let r = c.from_residual in
    let p = err_from_is_err_and r.result r.ensures.1 in
    rw (p.1, p.2, ← c.lower_by.ensures, ← c.in_err-fresh.ensures.value)

pub returns-in_err-batch_with_origins : goal.returns-in_err-batch_with_origins
unfolding started_with
returns-in_err-batch_with_origins c =
    let s = c.args.self.now in
    let n = s.count - length c.args.withdrawn.now in
    let r = c.from_residual-in_err-batch_with_origins in
    let p = err_from_is_err_and r.result r.ensures.1 in
    rw (
      p.1,
      p.2,
      ← laid-lines c.lay.new.numbers n (4 * n) _ (omega arith) (omega arith) c.lay.ensures.lines,
      ← laid-origins c.lay.new.threes n (3 * n) _ (omega arith) (omega arith) c.lay.ensures.origins,
      ← c.lower_by.ensures,
      ← c.in_ok-fresh.ensures.value,
      ← c.in_err-batch_with_origins.ensures.value,
    )

pub returns : goal.returns
unfolding started_with
returns c =
    let s = c.args.self.now in
    let n = s.count - length c.args.withdrawn.now in
    rw (
      ← laid-lines c.lay.new.numbers n (4 * n) _ (omega arith) (omega arith) c.lay.ensures.lines,
      ← laid-origins c.lay.new.threes n (3 * n) _ (omega arith) (omega arith) c.lay.ensures.origins,
      ← c.lower_by.ensures,
      ← c.in_ok-fresh.ensures.value,
      ← c.in_ok-batch_with_origins.ensures.value,
    )
