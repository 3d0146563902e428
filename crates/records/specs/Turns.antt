-- The program (01, "Records (ours)"): turn behind turn, each on what a read brings; and a turn over lent memory.
-- Definitions only. Assumes nothing.
use Rattle.std.specs.Prelude.{ℕ, ◌+◌, ◌*◌, ◌≤◌, ◌≡◌, Bool, true, false, ◌&&◌, List, [], ◌∷◌, ◌++◌, leb, length, take, drop}
use Rattle.arithmetic.specs.Binary32.{when◌then◌else◌}
use Rattle.admission.specs.Faults.{fits_behind}
use Rattle.scene_records.specs.Versions.{longest_either}
use Rattle.answer_records.specs.Answers.{longest_answer}
use Rattle.records.specs.declared.Stream.{Stream}
use Rattle.records.specs.Streams.{Worked, unlimited, worked, last_answer}

-- ---- the program

-- what is answered in a turn, what is kept for the next read, how many bytes are still to be skipped, and whether there
-- may be more to read
pub record Turned : Type 0 where
  pub answers : List ℕ
  pub kept : List ℕ
  pub skip : ℕ
  pub more : Bool

-- all that is whole was answered, and the rest is kept
abbrev pub going_on : List ℕ → Worked → Turned
going_on s w = record { answers = w.answers; kept = drop w.used s; skip = w.skip; more = true }

-- what a read brings goes behind what was kept; one that brings nothing has met the input's end
abbrev pub turned : List ℕ → ℕ → List ℕ → Turned
turned kept skip [] = record { answers = last_answer (length kept); kept = []; skip = 0; more = false }
turned kept skip (b ∷ read) = going_on (kept ++ (b ∷ read)) (worked unlimited skip (kept ++ (b ∷ read)))

-- all that the program writes over its reads
unfoldable pub run : List ℕ → ℕ → List (List ℕ) → List ℕ
run kept skip [] = (turned kept skip []).answers
run kept skip (read ∷ reads) =
    let t = turned kept skip read in
    t.answers ++ (when t.more then run t.kept t.skip reads else [])

-- its input: the reads one behind the other, up to the one that brings nothing
unfoldable pub joined : List (List ℕ) → List ℕ
joined [] = []
joined ([] ∷ reads) = []
joined ((b ∷ read) ∷ reads) = (b ∷ read) ++ joined reads

-- ---- a turn over lent memory

-- where the stream stands after a turn, and what input and output hold then
pub record Lent : Type 0 where
  pub turn : Stream
  pub input : List ℕ
  pub output : List ℕ

abbrev pub lent : Stream → List ℕ → List ℕ → Lent
lent t input output = record { turn = t; input = input; output = output }

-- the answers at the output's start, what is kept at the input's; what lies behind them stays
abbrev pub lent_by : Turned → List ℕ → List ℕ → Lent
lent_by t input output =
    lent (record { put = length t.answers; kept = length t.kept; skip = t.skip; more = t.more })
    (t.kept ++ drop (length t.kept) input) (t.answers ++ drop (length t.answers) output)

-- the input holds what was kept and read; the output has two bytes for each of the input's, and those of the longest answer
unfoldable pub has_room_for : ℕ → ℕ → ℕ → ℕ → Bool
has_room_for input output kept read = leb (2 * input + longest_answer) output && fits_behind input kept read

-- nothing to write, and no more to read
abbrev pub closed : Stream
closed = record { put = 0; kept = 0; skip = 0; more = false }

-- what was kept stands at the input's start, and behind it what was read; without room nothing is done
unfoldable pub turn_over : List ℕ → List ℕ → Stream → ℕ → Lent
turn_over input output before read =
    when has_room_for (length input) (length output) before.kept read
    then lent_by (turned (take before.kept input) before.skip (take read (drop before.kept input))) input output
    else lent closed input output

-- ---- what a program keeps to

-- buffers of which each read may fill 64 KiB and more behind a record cut short, with room for all answers; fewer bytes are kept
-- than the longest record has
pub record Ready (input output kept : ℕ) : Type 0 where
  pub long : 65536 + (1 + longest_either) ≤ input
  pub room : 2 * input + longest_answer ≤ output
  pub few : kept ≤ 1 + longest_either

-- for what some read brought, the stream goes on by `run`'s step: its answers stand at the output's start, what it
-- keeps at the input's
pub record Follows (before : Stream) (input : List ℕ) (next : Stream) (held output : List ℕ) : Type 0 where
  pub read : List ℕ
  pub answers : take next.put output ≡ (turned (take before.kept input) before.skip read).answers
  pub kept : take next.kept held ≡ (turned (take before.kept input) before.skip read).kept
  pub skip : next.skip ≡ (turned (take before.kept input) before.skip read).skip
  pub more : next.more ≡ true → (turned (take before.kept input) before.skip read).more ≡ true
