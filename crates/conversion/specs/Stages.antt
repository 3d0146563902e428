-- How a stream stands, with a refusal's number. Definitions only. Assumes nothing.
use Rattle.std.specs.Prelude.{ℕ}
use Rattle.admission.specs.declared.refusal.Refusal.{Refusal}
use Rattle.admission.specs.Refusals.{number_of}
use Rattle.conversion.specs.declared.Stage.{Stage as StageCode}
use Rattle.conversion.specs.declared.Stage.TheVariants as code

-- there may be more to read; or it has ended behind a whole record; or the record at the place is refused with this
-- number; or the buffers of a turn were too short for it
pub data Stage : Type 0 where
  Open : Stage
  Whole : Stage
  Refused : ℕ → Stage
  NoRoom : Stage

-- what the code says of it
abbrev pub stage_of : StageCode Refusal → Stage
stage_of code.Open = Open
stage_of code.Whole = Whole
stage_of (code.Refused r) = Refused (number_of r)
stage_of code.NoRoom = NoRoom
