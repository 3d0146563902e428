-- `comparison::finish` meets its contract. Assumes nothing.
use mathlib.Core.Path.{ap, ◌∙◌}
use Rattle.comparison.specs.Verdicts.{found_of}
use Rattle.comparison.specs.Comparing.{told_in}
use Rattle.comparison.proofs.TurnLaws.{ended-told, going-told}
use Rattle.comparison.proofs.finish.Goals as goal

pub returns-in-Some : goal.returns-in-Some
returns-in-Some c =
    let a = c.args in
    ended-told a.ours.now a.theirs.now a.place c.advance-progress.ensures
    (ap found_of c.in-Some.is)

pub returns-in-None : goal.returns-in-None
returns-in-None c =
    let a = c.args in
    c.told.ensures ∙ ap (told_in _) c.whole_turn-turn.ensures ∙ going-told a.ours.now a.theirs.now
    a.place c.advance-progress.ensures (ap found_of c.in-None.is)
