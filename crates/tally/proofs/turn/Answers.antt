-- `tally::turn` meets its contract. Assumes nothing.
use Rattle.std.proofs.Common.{rules, ap}
use Rattle.tally.specs.Turns.{ended, ended_over}
use Rattle.tally.proofs.TurnLaws.{end_read, some_read}
use Rattle.tally.proofs.turn.Goals as goal

pub returns-then-got-eq0 : goal.returns-then-got-eq0
unfolding ended_over
returns-then-got-eq0 g c =
    end_read c.args.input.now c.read.new.buf _ c.args.before _ c.if-input-kept.false (ap ended c.finish.ensures)

pub returns : goal.returns
returns g c =
    some_read c.args.input.now c.read.new.buf _ c.args.before _ c.if-input-kept.false c.in-Ok.got (search rules)
    c.tally_read.ensures
