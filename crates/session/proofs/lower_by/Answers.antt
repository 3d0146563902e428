-- `session::lower_by` meets its contract. Assumes nothing.
use Rattle.std.proofs.Common.{◌≡◌, ltb, rules}
use Rattle.std.specs.List.{count_by}
use Rattle.session.proofs.ChangeWork.{lowered-counted}
use Rattle.session.proofs.lower_by.Goals as goal

pub returns : goal.returns
returns c =
    let a = c.args in
    let counted : c.count-below.result ≡ count_by (λ i. ltb i a.rigid) a.withdrawn.now = search rules in
    lowered-counted a.withdrawn.now a.rigid counted c.saturating_sub.ensures
