-- `session::Session::batch_with_origins` meets its contract. Assumes nothing.
use Rattle.std.proofs.Common.{◌≡◌, rules}
use Rattle.session.specs.Batches.{fed_with}
use Rattle.session.specs.Calls.{fed_of}
use Rattle.session.proofs.BatchWork.{batch-counts}
use Rattle.session.proofs.HandedLaws.{continues-by}
use Rattle.session.proofs.Session.batch_with_origins.Goals as goal

pub returns-in_err-judge_batch : goal.returns-in_err-judge_batch
unfolding fed_with
returns-in_err-judge_batch c =
    let a = c.args in
    let e : fed_of c.from_residual.result a.self.now ≡ fed_with a.self.now a.numbers.now a.origins.now = search rules in
    let h = continues-by a.self.now a.numbers.now a.origins.now _ e in
    record { value = h.0; continues_with = h.1 }

pub work-requires : goal.work-requires
work-requires c =
    let a = c.args in
    batch-counts _ a.numbers.now a.origins.now c.in_ok-judge_batch.ensures

pub returns : goal.returns
unfolding fed_with
returns c =
    let a = c.args in
    let h = continues-by a.self.now a.numbers.now a.origins.now _ (rw (← c.in_ok-judge_batch.ensures) c.work.ensures) in
    record { value = h.0; continues_with = h.1 }
