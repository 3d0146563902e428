-- `session::source_in` meets its contract. The invariant: the indices from here on take the place so far to the answer.
-- Assumes nothing.
use Rattle.std.proofs.Common.{◌≡◌, ◌+◌, ◌≤◌, drop}
use Rattle.session.specs.Withdrawals.{source_in}
use Rattle.session.proofs.source_in.Given as goal

abbrev pub invariant-loop-index : goal.invariant-loop-index
invariant-loop-index l =
    (l.from ≤ l.n + l.index-index) × (source_in l.withdrawn l.n ≡ source_in (drop l.index-index l.withdrawn) l.from)
