-- `fallback_index::append_record` meets its contract. Assumes nothing.
use Rattle.std.proofs.Common.{rules}
use Rattle.fallback_index.proofs.UpdateLaws.{append-long, append-refused, append-done}
use Rattle.fallback_index.proofs.append_record.Goals as goal

pub returns-then-length-buffer : goal.returns-then-length-buffer
returns-then-length-buffer c = append-long _ _ _ _ c.if-length-buffer.true

pub returns-in_err-extent : goal.returns-in_err-extent
returns-in_err-extent c =
    rw (← append-refused _ _ _ _ c.if-length-buffer.false _ c.in_err-extent.ensures) (search rules)

pub returns : goal.returns
returns c =
    append-done _ _ _ _ c.if-length-buffer.false _ _ _ c.in_ok-extent.ensures _ c.store_update.ensures
