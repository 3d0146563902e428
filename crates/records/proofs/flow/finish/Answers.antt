-- `records::flow::finish` meets its contract. Assumes nothing.
use Rattle.records.proofs.EndLaws.{nothing_left, some_left}
use Rattle.records.proofs.flow.finish.Goals as goal

pub returns-then-left-eq0 : goal.returns-then-left-eq0
returns-then-left-eq0 c = nothing_left _ _ c.if-left-eq0.true

pub returns : goal.returns
returns c = some_left _ _ c.if-left-eq0.false
    c.requires _ _ (rw c.number.ensures at c.write_refusal.ensures)
