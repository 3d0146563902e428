-- One record moved, and the work on what was read, over lent memory. Definitions only. Assumes nothing.
use Rattle.std.specs.Prelude.{ℕ, ◌+◌, List, ◌++◌, length, drop, Option, Some, None, Result, Ok, Err}
use Rattle.admission.specs.declared.refusal.Refusal.{Refusal}
use Rattle.admission.specs.Refusals.{number_of}
use Rattle.scene_records.specs.declared.Version.{Version}
use Rattle.records.specs.Steps.{Put, put_at}
use Rattle.conversion.specs.declared.Place.{Place}
use Rattle.conversion.specs.declared.Walk.{Walk}
use Rattle.conversion.specs.Stages.{Stage, stage_of}
use Rattle.conversion.specs.Stages as stage
use Rattle.conversion.specs.Streams.{Met, moves, refuses, waits, met_in, next_place, Walked, walked}

-- ---- one record

-- where it leads, and what the output holds then
pub data Stepped : Type 0 where
  goes_on : Place → List ℕ → Stepped
  stops : Stage → List ℕ → Stepped

abbrev pub stepped_of : Result (Option Place) Refusal → List ℕ → Stepped
stepped_of (Ok (Some p)) l = goes_on p l
stepped_of (Ok None) l = stops stage.Open l
stepped_of (Err r) l = stops (stage.Refused (number_of r)) l

abbrev pub goes_with : ℕ → Put → ℕ → Stepped
goes_with used p place = goes_on (record { used = used; put = p.count; place = place }) p.contents

-- the moved record goes behind those that stand; what lies behind it stays
abbrev pub step_by : List ℕ → Place → Met → Stepped
step_by out p waits = stops stage.Open out
step_by out p (refuses r) = stops (stage.Refused r) out
step_by out p (moves k t) = goes_with (p.used + k) (put_at p.put t out) (next_place p.place)

unfoldable pub step_over : Version → List ℕ → List ℕ → Place → Stepped
step_over to s out p = step_by out p (met_in to (drop p.used s))

-- ---- all that are whole

-- where the work stops, and what the output holds then
pub record Standing : Type 0 where
  pub place : Place
  pub stage : Stage
  pub contents : List ℕ

abbrev pub standing : Walk → List ℕ → Standing
standing w l = record { place = w.place; stage = stage_of w.stage; contents = l }

-- the moved records at the output's start; what lies behind them stays
abbrev pub standing_by : Walked → List ℕ → Standing
standing_by w out = record {
  place = record { used = w.used; put = length w.bytes; place = w.place };
  stage = w.stage;
  contents = w.bytes ++ drop (length w.bytes) out;
}

unfoldable pub walked_over : Version → List ℕ → List ℕ → ℕ → Standing
walked_over to s out place = standing_by (walked to place s) out
