-- `session::Session::change` meets its contract. Assumes nothing.
use Rattle.std.proofs.lemmas.Result.{err_from_is_err_and}
use Rattle.session.specs.Changes.{changed_as}
use Rattle.session.proofs.ChangeWork.{change-fits, changed-refused, changed-given}
use Rattle.session.proofs.Session.change.Goals as goal

pub returns-in_err-judge_change : goal.returns-in_err-judge_change
unfolding changed_as
returns-in_err-judge_change c =
    let p = err_from_is_err_and c.from_residual.result c.from_residual.ensures.1 in
    rw (p.1, p.2, ← c.in_err-judge_change.ensures)

pub without-requires : goal.without-requires
without-requires c = change-fits _ _ c.in_ok-judge_change.ensures

pub returns-in_err-fresh : goal.returns-in_err-fresh
returns-in_err-fresh c =
    let a = c.args in
    let r = c.from_residual-in_err-fresh in
    let p = err_from_is_err_and r.result r.ensures.1 in
    rw (
      p.1,
      p.2,
      changed-refused a.self.now a.withdrawn.now a.numbers.now a.origins.now c.in_ok-judge_change.ensures c.in_err-fresh.ensures,
    )

pub returns-in_err-batch_with_origins : goal.returns-in_err-batch_with_origins
returns-in_err-batch_with_origins c =
    let a = c.args in
    let r = c.from_residual-in_err-batch_with_origins in
    let p = err_from_is_err_and r.result r.ensures.1 in
    rw (
      p.1,
      p.2,
      changed-given a.self.now a.withdrawn.now a.numbers.now a.origins.now c.in_ok-judge_change.ensures c.in_ok-fresh.ensures,
      ← c.in_err-batch_with_origins.ensures.value,
    )

pub returns : goal.returns
returns c =
    let a = c.args in
    rw (
      changed-given a.self.now a.withdrawn.now a.numbers.now a.origins.now c.in_ok-judge_change.ensures c.in_ok-fresh.ensures,
      ← c.in_ok-batch_with_origins.ensures.value,
    )
