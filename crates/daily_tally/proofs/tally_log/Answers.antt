-- `daily_tally::tally_log` meets its contract. Assumes nothing.
use Rattle.std.proofs.Common.{◌∙◌, arith}
use Rattle.answer_logs.specs.Logs.{most_records}
use Rattle.daily_tally.proofs.PageLaws.{whole-told}
use Rattle.daily_tally.proofs.tally_log.Goals as goal

pub returns : goal.returns
returns c =
    let walk = rw c.nothing.ensures at c.finish_within.ensures in
    walk.0 ∙ whole-told most_records (omega arith) _ walk.1
