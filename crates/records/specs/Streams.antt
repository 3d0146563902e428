-- A stream of scene records worked part by part, and what stands at its end (01, "Records (ours)"). Definitions only.
-- Assumes nothing.
use Rattle.std.specs.Prelude.{ℕ, zero, suc, ◌+◌, ◌-◌, Bool, true, List, [], ◌++◌, eqb, leb, length, take, drop}
use Rattle.arithmetic.specs.Binary32.{when◌then◌else◌}
use Rattle.answer_records.specs.Answers.{longest_answer, refusal_bytes}
use Rattle.records.specs.declared.Place.{Place}
use Rattle.records.specs.Answered.{reply_to}
use Rattle.records.specs.Parts.{Part, skipped, overlong, whole, cut_short, part_in}

-- ---- the work on what is there

-- how many bytes of answers there is room for
pub data Room : Type 0 where
  unlimited : Room
  bytes : ℕ → Room

-- a part is worked where there is room for the longest answer
abbrev pub has_room : Room → Bool
has_room unlimited = true
has_room (bytes n) = leb longest_answer n

abbrev pub less : Room → ℕ → Room
less unlimited k = unlimited
less (bytes n) k = bytes (n - k)

-- how many bytes of the stream were used, what was answered, and how many bytes are still to be skipped
pub record Worked : Type 0 where
  pub used : ℕ
  pub answers : List ℕ
  pub skip : ℕ

abbrev pub stopped : ℕ → Worked
stopped skip = record { used = 0; answers = []; skip = skip }

-- behind k bytes more and their answer
abbrev pub after : ℕ → List ℕ → Worked → Worked
after k answer w = record { used = k + w.used; answers = answer ++ w.answers; skip = w.skip }

-- a part, then what `next` makes of the bytes behind it: an overlong record gets 4 when its length is read, and is skipped by it
abbrev pub onward : (Room → ℕ → List ℕ → Worked) → Room → ℕ → List ℕ → Part → Worked
onward next room skip s cut_short = stopped skip
onward next room skip s (skipped k) = after k [] (next room (skip - k) (drop k s))
onward next room skip s (overlong n) = after 2 (refusal_bytes 4) (next (less room (length (refusal_bytes 4))) n (drop 2 s))
onward next room skip s (whole k) = after k (reply_to (take k s)) (next (less room (length (reply_to (take k s)))) 0 (drop k s))

-- at most so many parts
unfoldable pub parts : ℕ → Room → ℕ → List ℕ → Worked
parts zero room skip s = stopped skip
parts (suc n) room skip s = when has_room room then onward (parts n) room skip s (part_in skip s) else stopped skip

-- all parts: each has a byte at least
unfoldable pub worked : Room → ℕ → List ℕ → Worked
worked room skip s = parts (length s) room skip s

-- ---- over lent memory

-- where the work stops, and what the output holds then
pub record Standing : Type 0 where
  pub place : Place
  pub contents : List ℕ

abbrev pub standing : Place → List ℕ → Standing
standing p l = record { place = p; contents = l }

-- the answers at the output's start; what lies behind them stays
abbrev pub standing_by : Worked → List ℕ → Standing
standing_by w out = standing (record { used = w.used; put = length w.answers; skip = w.skip })
    (w.answers ++ drop (length w.answers) out)

unfoldable pub worked_over : List ℕ → List ℕ → ℕ → Standing
worked_over s out skip = standing_by (worked (bytes (length out)) skip s) out

-- ---- the end of the input

-- "a last one cut short gets 2, or 4 if overlong": one that is overlong has had its 4
unfoldable pub last_answer : ℕ → List ℕ
last_answer left = when eqb left 0 then [] else refusal_bytes 2

-- all answers to a stream, with so many bytes still to be skipped
abbrev pub ended : List ℕ → Worked → List ℕ
ended s w = w.answers ++ last_answer (length (drop w.used s))

unfoldable pub answers_from : ℕ → List ℕ → List ℕ
answers_from skip s = ended s (worked unlimited skip s)

-- what the program answers to its whole input; "no input, no output"
abbrev pub answers_to : List ℕ → List ℕ
answers_to = answers_from 0
