-- `fallbacks::building::turn` meets its contract. Assumes nothing.
use Rattle.std.proofs.Common.{rules, arith}
use Rattle.fallbacks.proofs.TurnLaws.{some_read}
use Rattle.fallbacks.proofs.building.turn.Goals as goal

pub returns-clause-follows : goal.returns-clause-follows
returns-clause-follows g c =
    let a = c.args in
    some_read a.input.now c.read.new.buf a.entries.now _ _ a.before _ (omega (arith, c.requires.0, c.requires.1)) c.in-Ok.got
    (search rules) c.step.ensures.steps
