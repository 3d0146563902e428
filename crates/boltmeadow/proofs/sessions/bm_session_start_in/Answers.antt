-- `boltmeadow::sessions::bm_session_start_in` meets its contract. Assumes nothing.
use Rattle.held_sessions.specs.Blocks.{left_by}
use Rattle.boltmeadow.proofs.sessions.bm_session_start_in.Goals as goal

pub returns-in-Err : goal.returns-in-Err
unfolding left_by
returns-in-Err c = rw (c.from.ensures, c.number.ensures, ← c.new.ensures, ← c.start.ensures.value, c.in-Err.is)
