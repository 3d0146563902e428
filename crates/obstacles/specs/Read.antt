-- What each result of the code says, in 01's values and numbers, and the struct that lines are handed over in.
-- Definitions only. Assumes nothing.
use Rattle.std.specs.Prelude.{◌-◌, ◌*◌, List, ◌++◌, length, replicate, Option, Some, None, Result, Ok, Err, Float}
use Rattle.arithmetic.specs.Binary32.{0ᶠ}
use Rattle.lines.specs.declared.Line.{Line}
use Rattle.lines.specs.Lines.{numbers_of}
use Rattle.admission.specs.declared.refusal.Refusal.{Refusal}
use Rattle.admission.specs.Refusals.{number_of, refusal_of}
use Rattle.admission.specs.Faults.{Fault, fine, fault}
use Rattle.obstacles.specs.declared.ObstacleLines.{ObstacleLines}
use Rattle.obstacles.specs.Obstacles.{Answer, lines, refused, Admitted, kept, nothing_kept, not_admitted}

abbrev pub admitted_of : Result (Option Line) Refusal → Admitted
admitted_of (Ok (Some l)) = kept l
admitted_of (Ok None) = nothing_kept
admitted_of (Err r) = not_admitted (number_of r)

abbrev pub admitted_as : Admitted → Result (Option Line) Refusal
admitted_as (kept l) = Ok (Some l)
admitted_as nothing_kept = Ok None
admitted_as (not_admitted r) = Err (refusal_of r)

-- ---- lines as numbers, four a line

unfoldable pub blank_numbers : List Float
blank_numbers = replicate 256 0ᶠ

-- what the code hands over: the numbers of the lines with zeros behind them, and their count; or the refusal
abbrev pub answer_as : Answer → Result ObstacleLines Refusal
answer_as (lines ls) = Ok (record {
  lines = numbers_of ls ++ replicate (256 - 4 * length ls) 0ᶠ;
  count = length ls;
})
answer_as (refused r) = Err (refusal_of r)

-- the number that its refusal is told with, if it is one; and the number that an answer refuses with
abbrev pub told_of : Result ObstacleLines Refusal → Fault
told_of (Ok l) = fine
told_of (Err r) = fault (number_of r)

abbrev pub fault_in : Answer → Fault
fault_in (lines ls) = fine
fault_in (refused r) = fault r
