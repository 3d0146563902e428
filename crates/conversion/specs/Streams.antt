-- A stream of scene records moved to one version, record by record (02, T-07). Definitions only. Assumes nothing.
use Rattle.std.specs.Prelude.{ℕ, ◌+◌, ◌%◌, ◌^◌, Bool, true, false, List, [], ◌++◌, length, take, drop, ◌==◌}
use Rattle.arithmetic.specs.Binary32.{when◌then◌else◌}
use Rattle.kept.specs.Walks.{walk}
use Rattle.fields.specs.Got.{Got, refused, got}
use Rattle.scene_records.specs.declared.Version.{Version}
use Rattle.scene_records.specs.declared.Version.TheVariants.{One, Two}
use Rattle.scene_moves.specs.Moves.{moved}
use Rattle.records.specs.Parts.{Part, skipped, overlong, whole, cut_short, part_in}
use Rattle.conversion.specs.Stages.{Stage}
use Rattle.conversion.specs.Stages as stage

-- ---- one record

-- the version that a record is moved from
abbrev pub other_of : Version → Version
other_of One = Two
other_of Two = One

-- what stands at the start of a stream: a record, by the count of its bytes, and the bytes that it is moved to; one
-- that is refused; or nothing whole
pub data Met : Type 0 where
  moves : ℕ → List ℕ → Met
  refuses : ℕ → Met
  waits : Met

abbrev pub met_by : ℕ → Got (List ℕ) → Met
met_by k (refused r) = refuses r
met_by k (got t at) = moves k t

-- the stream is cut into records as `feed` cuts it, but that an overlong one is not skipped: it is refused, with 4
abbrev pub met_as : Version → List ℕ → Part → Met
met_as to s (skipped k) = waits
met_as to s (overlong n) = refuses 4
met_as to s (whole k) = met_by k (moved (other_of to) to (take k s))
met_as to s cut_short = waits

unfoldable pub met_in : Version → List ℕ → Met
met_in to s = met_as to s (part_in 0 s)

-- ---- record by record

-- places are counted from 0, in 64 bits
unfoldable pub next_place : ℕ → ℕ
next_place place = (place + 1) % 2 ^ 64

-- how many bytes of the stream were used, the moved records, the place behind them, and the stage there
pub record Walked : Type 0 where
  pub used : ℕ
  pub bytes : List ℕ
  pub place : ℕ
  pub stage : Stage

abbrev pub stopped : ℕ → Stage → Walked
stopped place g = record { used = 0; bytes = []; place = place; stage = g }

-- behind a record of k bytes that was moved to t
abbrev pub after : ℕ → List ℕ → Walked → Walked
after k t w = record { used = k + w.used; bytes = t ++ w.bytes; place = w.place; stage = w.stage }

-- a record, then what `next` makes of the bytes behind it; one that is refused ends it
abbrev pub onward : (ℕ → List ℕ → Walked) → ℕ → List ℕ → Met → Walked
onward next place s waits = stopped place stage.Open
onward next place s (refuses r) = stopped place (stage.Refused r)
onward next place s (moves k t) = after k t (next (next_place place) (drop k s))

abbrev pub step : Version → (ℕ → List ℕ → Walked) → ℕ → List ℕ → Walked
step to next place s = onward next place s (met_in to s)

-- all records that are whole, the first of them at the place: each has a byte at least
unfoldable pub walked : Version → ℕ → List ℕ → Walked
walked to place s = walk (step to) (λ p. stopped p stage.Open) (length s) place s

-- ---- the end of the stream

-- bytes that are left over are a record cut short, which gets 2
unfoldable pub last_stage : ℕ → Stage
last_stage left = when left == 0 then stage.Whole else stage.Refused 2

abbrev pub is_open : Stage → Bool
is_open stage.Open = true
is_open stage.Whole = false
is_open (stage.Refused r) = false
is_open stage.NoRoom = false

-- what comes of a stream: the records that are written, the place where it ended, and how: all were moved, or the
-- record there is refused
pub record Converted : Type 0 where
  pub bytes : List ℕ
  pub place : ℕ
  pub stage : Stage

abbrev pub ended : List ℕ → Walked → Converted
ended s w = record {
  bytes = w.bytes;
  place = w.place;
  stage = when is_open w.stage then last_stage (length (drop w.used s)) else w.stage;
}

unfoldable pub converted_from : Version → ℕ → List ℕ → Converted
converted_from to place s = ended s (walked to place s)

-- the whole stream
abbrev pub converted_to : Version → List ℕ → Converted
converted_to to = converted_from to 0
