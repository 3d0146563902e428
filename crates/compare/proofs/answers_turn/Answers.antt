-- `compare::answers_turn` meets its contract. Assumes nothing.
use Rattle.compare.proofs.TurnLaws.{answers-follow}
use Rattle.compare.proofs.answers_turn.Goals as goal

pub returns-clause-follows : goal.returns-clause-follows
returns-clause-follows g c =
    let a = c.args in
    let few = c.in_ok-brought.ensures in
    answers-follow a.before a.input.now a.ours.now a.theirs.now c.read.new.buffer _ c.requires few _ _ _
    c.compare_next.ensures
