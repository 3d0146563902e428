-- The records of a log and of a part of one, with no limit: each has a byte at least, so that as many as there are
-- bytes are never too few (02, T-10). Definitions only. Assumes nothing.
use Rattle.std.specs.Prelude.{Bool, true, false, List, ℕ, length}
use Rattle.answer_logs.specs.Logs.{Records, records_in}
use Rattle.answer_logs.specs.Parts.{Wholes, reached, stopped, wholes_from}

unfoldable pub records_of : List ℕ → Records
records_of log = records_in (length log) log

-- a bad record by its number alone
abbrev pub unplaced : Wholes → Wholes
unplaced (reached l used) = reached l used
unplaced (stopped n place) = stopped n 0

-- the whole records of a part and the count of their bytes, or the number of the first bad one
unfoldable pub wholes_of : List ℕ → Wholes
wholes_of part = unplaced (wholes_from (length part) 0 part)

-- no record of it is bad
abbrev pub is_whole : Wholes → Bool
is_whole (reached l used) = true
is_whole (stopped n place) = false
