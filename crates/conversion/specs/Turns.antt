-- The program: turn behind turn, each on what a read brings; and a turn over lent memory. Definitions only. Assumes
-- nothing.
use Rattle.std.specs.Prelude.{◌≡◌, ℕ, ◌+◌, ◌*◌, ◌≤◌, Bool, ◌&&◌, List, [], ◌∷◌, ◌++◌, length, take, drop, nat_le}
use Rattle.arithmetic.specs.Binary32.{when◌then◌else◌}
use Rattle.admission.specs.Faults.{fits_behind}
use Rattle.scene_records.specs.declared.Version.{Version}
use Rattle.scene_records.specs.Versions.{longest_either}
use Rattle.admission.specs.declared.refusal.Refusal.{Refusal}
use Rattle.conversion.specs.declared.Stage.{Stage as StageCode}
use Rattle.conversion.specs.declared.Stage.TheVariants as code
use Rattle.conversion.specs.declared.Stream.{Stream}
use Rattle.conversion.specs.Stages.{Stage, stage_of}
use Rattle.conversion.specs.Streams.{Walked, walked, last_stage, is_open, Converted}

-- ---- the program

-- the records moved in a turn, what is kept for the next read, the place behind them, and the stage
pub record Turned : Type 0 where
  pub bytes : List ℕ
  pub kept : List ℕ
  pub place : ℕ
  pub stage : Stage

-- all that is whole was moved, and the rest is kept, unless a record is refused
abbrev pub going_on : List ℕ → Walked → Turned
going_on s w =
    record {
      bytes = w.bytes;
      kept = when is_open w.stage then drop w.used s else [];
      place = w.place;
      stage = w.stage;
    }

-- what a read brings goes behind what was kept; one that brings nothing has met the stream's end
abbrev pub turned : Version → List ℕ → ℕ → List ℕ → Turned
turned to kept place [] = record { bytes = []; kept = []; place = place; stage = last_stage (length kept) }
turned to kept place (b ∷ read) = going_on (kept ++ (b ∷ read)) (walked to place (kept ++ (b ∷ read)))

abbrev pub told_by : Turned → Converted
told_by t = record { bytes = t.bytes; place = t.place; stage = t.stage }

abbrev pub ahead : List ℕ → Converted → Converted
ahead x c = record { bytes = x ++ c.bytes; place = c.place; stage = c.stage }

-- all that the program writes over its reads, where it ends, and how
unfoldable pub run : Version → List ℕ → ℕ → List (List ℕ) → Converted
run to kept place [] = told_by (turned to kept place [])
run to kept place (read ∷ reads) =
    let t = turned to kept place read in
    when is_open t.stage then ahead t.bytes (run to t.kept t.place reads) else told_by t

-- ---- a turn over lent memory

-- a stream as it is told: a refusal by name
abbrev pub ToldStream : Type 0
ToldStream = Stream Refusal

abbrev pub beginning : ToldStream
beginning = record { put = 0; kept = 0; place = 0; stage = code.Open }

-- a stream that has ended: nothing is kept
abbrev pub closed_at : ℕ → ℕ → StageCode Refusal → ToldStream
closed_at put place g = record { put = put; kept = 0; place = place; stage = g }

-- where the stream stands after a turn, and what input and output hold then
pub record Lent : Type 0 where
  pub put : ℕ
  pub kept : ℕ
  pub place : ℕ
  pub stage : Stage
  pub input : List ℕ
  pub output : List ℕ

abbrev pub lent : ToldStream → List ℕ → List ℕ → Lent
lent t input output = record {
  put = t.put;
  kept = t.kept;
  place = t.place;
  stage = stage_of t.stage;
  input = input;
  output = output;
}

-- the moved records at the output's start, what is kept at the input's; what lies behind them stays
abbrev pub lent_by : Turned → List ℕ → List ℕ → Lent
lent_by t input output = record {
  put = length t.bytes;
  kept = length t.kept;
  place = t.place;
  stage = t.stage;
  input = t.kept ++ drop (length t.kept) input;
  output = t.bytes ++ drop (length t.bytes) output;
}

-- the input holds what was kept and read; the output has two bytes for each of the input's
unfoldable pub has_room : ℕ → ℕ → ℕ → ℕ → Bool
has_room input output kept read = nat_le (2 * input) output && fits_behind input kept read

-- what was kept stands at the input's start, and behind it what was read; without room nothing is done; the stage
-- before is not looked at
unfoldable pub turn_over : {E : Type 0} → Version → List ℕ → List ℕ → Stream E → ℕ → Lent
turn_over to input output before read =
    when has_room (length input) (length output) before.kept read
    then lent_by (turned to (take before.kept input) before.place (take read (drop before.kept input))) input
    output
    else lent (closed_at 0 before.place code.NoRoom) input output

-- ---- what a program keeps to

-- buffers of which each read may fill 64 KiB and more behind a record cut short, with room for all moved records;
-- fewer bytes are kept than the longest record has
pub record Ready (input output kept : ℕ) : Type 0 where
  pub long : 65536 + (1 + longest_either) ≤ input
  pub room : 2 * input ≤ output
  pub few : kept ≤ 1 + longest_either

-- for what some read brought, the stream goes on by `run`'s step: its records stand at the output's start, what it
-- keeps at the input's
pub record Follows (to : Version) (before : ToldStream) (input : List ℕ) (next : ToldStream)
    (held output : List ℕ) : Type 0 where
  pub read : List ℕ
  pub bytes : take next.put output ≡ (turned to (take before.kept input) before.place read).bytes
  pub kept : take next.kept held ≡ (turned to (take before.kept input) before.place read).kept
  pub place : next.place ≡ (turned to (take before.kept input) before.place read).place
  pub stage : stage_of next.stage ≡ (turned to (take before.kept input) before.place read).stage
