-- The tally of a log that comes in parts: a step over a part with the tally so far, and the log's end (02, T-02).
-- Definitions only. Assumes nothing.
use Rattle.std.specs.Prelude.{ℕ, ◌+◌, ◌-◌, Bool, true, false, ltb, List, [], length, nat_lt, Result, Ok, Err}
use mathlib.Core.List.{foldl}
use Rattle.arithmetic.specs.Binary32.{when◌then◌else◌}
use Rattle.answer_logs.specs.Logs.{Logged, nothing, faulty, placed}
use Rattle.answer_logs.specs.Parts.{whole_at, Wholes, reached, stopped, wholes_from}
use Rattle.admission.specs.Refusals.{number_of}
use Rattle.daily_tally.specs.declared.DayTally.{DayTally}
use Rattle.daily_tally.specs.declared.Progress.{Progress}
use Rattle.daily_tally.specs.declared.RefusedAt.{RefusedAt}
use Rattle.daily_tally.specs.Figures.{largest_of, probes_of, tally_of, Walked, Tallied}
use Rattle.daily_tally.specs.Figures as walked
use Rattle.daily_tally.specs.Adding.{sum64, with_entry}

-- ---- one record

-- the record at a byte of a part, where so many more may begin: behind the last of them any byte is refused with 4
unfoldable pub whole_within : ℕ → List ℕ → ℕ → Logged
whole_within left part at = when nat_lt 0 left then whole_at part at else (when ltb at (length part) then faulty 4 else nothing)

-- its probes; where there is none, and of a refusal, 0
abbrev pub probes_at : Logged → ℕ
probes_at nothing = 0
probes_at (faulty n) = 0
probes_at (placed e behind) = probes_of e

-- what a step meets: a record that is counted, the end of what is there, or a bad record, by the number of its fault
pub data Met : Type 0 where
  record-met : Met
  end-met : Met
  fault-met : ℕ → Met

-- what is met, the byte behind it, and the tally with it
pub record Step : Type 0 where
  pub met : Met
  pub behind : ℕ
  pub tally : DayTally

abbrev pub step_by : ℕ → DayTally → Logged → Step
step_by at t nothing = record { met = end-met; behind = at; tally = t }
step_by at t (faulty n) = record { met = fault-met n; behind = at; tally = t }
step_by at t (placed e behind) = record { met = record-met; behind = behind; tally = with_entry sum64 t e }

unfoldable pub stepped : ℕ → List ℕ → ℕ → DayTally → Step
stepped left part at t = step_by at t (whole_within left part at)

-- ---- what is told

unfoldable pub told_whole : DayTally → Tallied
told_whole t = record { walked = walked.to-end; tally = t }

unfoldable pub told_beside : ℕ → ℕ → DayTally → Tallied
told_beside n place t = record { walked = walked.stopped n place; tally = t }

-- "with no partial tally"
abbrev pub told_refused : ℕ → ℕ → Tallied
told_refused n place = told_beside n place (tally_of [])

-- ---- a part

-- how far the tally came: the bytes that are used, the place of the next record, how the walk stands, the figures
pub record Advance : Type 0 where
  pub used : ℕ
  pub place : ℕ
  pub walked : Walked
  pub tally : DayTally

unfoldable pub going : ℕ → ℕ → DayTally → Advance
going used place t = record { used = used; place = place; walked = walked.to-end; tally = t }

unfoldable pub stopped_at : ℕ → ℕ → DayTally → Advance
stopped_at n place t = record { used = 0; place = place; walked = walked.stopped n place; tally = t }

-- what the code says of it
abbrev pub advance_of : Result Progress RefusedAt → Advance
advance_of (Ok p) = record { used = p.used; place = p.place; walked = walked.to-end; tally = p.tally }
advance_of (Err e) = record { used = 0; place = e.place; walked = walked.stopped (number_of e.refusal) e.place; tally = tally_of [] }

-- how far the records of a part bring a tally, from a byte of it on; "with no partial tally" beside a refusal
abbrev pub progress : ℕ → ℕ → DayTally → Wholes → Advance
progress at place t (reached l used) = going (at + used) (place + length l) (foldl (with_entry sum64) t l)
progress at place t (stopped n p) = stopped_at n p (tally_of [])

unfoldable pub advanced : ℕ → List ℕ → ℕ → DayTally → Advance
advanced most part place t = progress 0 place t (wholes_from (most - place) place part)

-- the largest of its probes
abbrev pub largest_in : Wholes → ℕ
largest_in (reached l used) = largest_of probes_of l
largest_in (stopped n p) = 0

-- ---- the log's end: bytes that are left are a record cut short

abbrev pub ended_as : Walked → Bool → ℕ → DayTally → Tallied
ended_as (walked.stopped n p) short place t = told_refused n p
ended_as walked.to-end true place t = told_refused 2 place
ended_as walked.to-end false place t = told_whole t

abbrev pub ended_by : ℕ → Advance → Tallied
ended_by n p = ended_as p.walked (nat_lt p.used n) p.place p.tally

unfoldable pub finished : ℕ → List ℕ → ℕ → DayTally → Tallied
finished most rest place t = ended_by (length rest) (advanced most rest place t)
