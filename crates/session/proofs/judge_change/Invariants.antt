-- `session::judge_change` meets its contract. The invariant: the indices from here on are judged from `low` on. Assumes nothing.
use Rattle.std.proofs.Common.{◌≡◌, ◌≤◌, drop}
use Rattle.session.specs.Changes.{ascending_fault}
use Rattle.session.proofs.judge_change.Given as goal

abbrev pub invariant-loop-next : goal.invariant-loop-next
invariant-loop-next l = (l.low ≤ l.count)
    × (ascending_fault l.count 0 l.withdrawn ≡ ascending_fault l.count l.low (drop l.next-index l.withdrawn))
