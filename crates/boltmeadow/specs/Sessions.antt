-- What a call on a session in four arrays tells, where it tells more than a number. Definitions only. Assumes nothing.
use Rattle.session.specs.Calls.{Changed, Unmet, At, Nothing, Refused}
use Rattle.held_sessions.specs.Blocks.{Block, left_by}
use Rattle.boltmeadow.specs.declared.sessions.BmChanged.{BmChanged}
use Rattle.boltmeadow.specs.declared.sessions.BmUnmet.{BmUnmet}

-- ---- a change by origin

-- what it tells, and what the arrays hold then
pub record Telling : Type 0 where
  pub tells : BmChanged
  pub holds : Block

abbrev pub left_telling : BmChanged → Block → Telling
left_telling r b = record { tells = r; holds = b }

-- the number of the refusal, 0 for none, with the count of the lines that were withdrawn; and the arrays as any call leaves them
unfoldable pub left_changed : Changed → Block → Telling
left_changed c b =
    left_telling (record { refusal = (left_by c.fed b).told; withdrawn = c.withdrawn }) (left_by c.fed b).holds

-- ---- the first line that is not strictly met

abbrev pub unmet_told : Unmet → BmUnmet
unmet_told (At k) = record { refusal = 0; found = 1; index = k }
unmet_told Nothing = record { refusal = 0; found = 0; index = 0 }
unmet_told (Refused n) = record { refusal = n; found = 0; index = 0 }
