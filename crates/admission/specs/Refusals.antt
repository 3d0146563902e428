-- 01 and 02, "Refusal numbers": each refusal's number, and the refusal that has it. Definitions only. Assumes nothing.
use Rattle.std.specs.Prelude.{ℕ, eqb}
use Rattle.arithmetic.specs.Binary32.{when◌then◌else◌}
use Rattle.admission.specs.declared.refusal.Refusal.{Refusal}
use Rattle.admission.specs.declared.refusal.Refusal.TheVariants as refusal

abbrev pub number_of : Refusal → ℕ
number_of refusal.OtherVersion = 1
number_of refusal.MissingOrLeftOver = 2
number_of refusal.UnknownKind = 3
number_of refusal.TooMany = 4
number_of refusal.NoVertices = 5
number_of refusal.OutOfRange = 6
number_of refusal.OutOfBand = 7
number_of refusal.EndsCrossed = 8
number_of refusal.NotAdmitted = 9
number_of refusal.NoRoom = 10
number_of refusal.LosesNumbers = 11
number_of refusal.AnotherLog = 12
number_of refusal.NoSuchRecords = 13
number_of refusal.DoubledVertex = 14
number_of refusal.NoSuchLine = 15

-- and back; the last is only told of its number
abbrev pub refusal_of : ℕ → Refusal
refusal_of n =
    when eqb n 1 then refusal.OtherVersion
    else when eqb n 2 then refusal.MissingOrLeftOver
    else when eqb n 3 then refusal.UnknownKind
    else when eqb n 4 then refusal.TooMany
    else when eqb n 5 then refusal.NoVertices
    else when eqb n 6 then refusal.OutOfRange
    else when eqb n 7 then refusal.OutOfBand
    else when eqb n 8 then refusal.EndsCrossed
    else when eqb n 9 then refusal.NotAdmitted
    else when eqb n 10 then refusal.NoRoom
    else when eqb n 11 then refusal.LosesNumbers
    else when eqb n 12 then refusal.AnotherLog
    else when eqb n 13 then refusal.NoSuchRecords
    else when eqb n 14 then refusal.DoubledVertex
    else refusal.NoSuchLine
