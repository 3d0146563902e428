-- Two logs compared place by place, whole or as far as a part of each reaches (02, T-09). Definitions only. Assumes nothing.
use Rattle.std.specs.Prelude.{ℕ, zero, suc, ◌+◌, List, ltb, length, drop, Option, Some, None}
use Rattle.arithmetic.specs.Binary32.{when◌then◌else◌}
use Rattle.answer_logs.specs.Logs as log
use Rattle.answer_logs.specs.Logs.{found_in}
use Rattle.answer_logs.specs.Parts.{found_whole}
use Rattle.records.specs.Streams.{answers_to}
use Rattle.comparison.specs.declared.Difference.TheVariants as difference
use Rattle.comparison.specs.Places.{Turn}
use Rattle.comparison.specs.Places as turn
use Rattle.comparison.specs.Verdicts.{Compared, agree, differs, unreadable, Progress}
use Rattle.comparison.specs.Agreeing.{matched_entries}
use Rattle.comparison.specs.Turns.{turn_by}

-- ---- one place

-- What two records make of a place, each with the count of its bytes. "At one and the same place, the unreadable answer" comes
-- first; "a missing or surplus record is a difference at its place". An unreadable one of ours, which there is none of, counts as
-- none and differs.
abbrev pub turn_of : log.Found → log.Found → Turn
turn_of ours (log.bad n) = turn.Unreadable n
turn_of log.ended log.ended = turn.BothEnded
turn_of (log.bad m) log.ended = turn.OneEnded difference.NoneOfOurs
turn_of (log.entry a j) log.ended = turn.OneEnded difference.NoneOfTheirs
turn_of log.ended (log.entry b k) = turn.OneEnded difference.NoneOfOurs
turn_of (log.bad m) (log.entry b k) = turn.Different difference.NoneOfOurs
turn_of (log.entry a j) (log.entry b k) = turn_by (matched_entries a b) j k

-- a place is a number of 64 bits; no file reaches the last, which stands for all behind it
unfoldable pub next_place : ℕ → ℕ
next_place place = when ltb place 18446744073709551615 then place + 1 else place

-- ---- place by place

-- where the comparison stops: the bytes of each that lie before it, the place, and what stands there
pub record Stop : Type 0 where
  pub ours : ℕ
  pub theirs : ℕ
  pub place : ℕ
  pub turn : Turn

abbrev pub here : ℕ → Turn → Stop
here place w = record { ours = 0; theirs = 0; place = place; turn = w }

-- behind so many bytes more of each
abbrev pub behind : ℕ → ℕ → Stop → Stop
behind j k s = record { ours = j + s.ours; theirs = k + s.theirs; place = s.place; turn = s.turn }

-- a place that agrees is passed
abbrev pub passed : ℕ → (ℕ → ℕ → Stop) → Turn → Stop
passed place next (turn.Onward j k) = behind j k (next j k)
passed place next (turn.Unreadable n) = here place (turn.Unreadable n)
passed place next (turn.Different d) = here place (turn.Different d)
passed place next turn.BothEnded = here place turn.BothEnded
passed place next (turn.OneEnded d) = here place (turn.OneEnded d)

-- the first place that does not agree, where `read` tells what stands at the start of bytes; at most so many places
unfoldable pub walked : (List ℕ → log.Found) → ℕ → ℕ → List ℕ → List ℕ → Stop
walked read zero place ours theirs = here place turn.BothEnded
walked read (suc n) place ours theirs =
    passed place (λ j k. walked read n (next_place place) (drop j ours) (drop k theirs))
    (turn_of (read ours) (read theirs))

-- of all places: a record of theirs has a byte at least
unfoldable pub first_stop : (List ℕ → log.Found) → ℕ → List ℕ → List ℕ → Stop
first_stop read place ours theirs = walked read (suc (length theirs)) place ours theirs

-- ---- whole logs

-- "reports the first record whose outcome, point, failed line or probe count differs, or that all agree"; no walk stops
-- at a place that agrees
unfoldable pub told_in : ℕ → Turn → Compared
told_in place (turn.Onward j k) = agree
told_in place (turn.Unreadable n) = unreadable n place
told_in place (turn.Different d) = differs place d
told_in place turn.BothEnded = agree
told_in place (turn.OneEnded d) = differs place d

-- from a place on
unfoldable pub compared_from : ℕ → List ℕ → List ℕ → Compared
compared_from place ours theirs = let s = first_stop found_in place ours theirs in told_in s.place s.turn

unfoldable pub compared_logs : List ℕ → List ℕ → Compared
compared_logs ours theirs = compared_from 0 ours theirs

-- "reads our scenes and the reseller's answer records from two files, works each scene out"
unfoldable pub compared : List ℕ → List ℕ → Compared
compared scenes answers = compared_logs (answers_to scenes) answers

-- ---- parts of logs

-- where a part has ended, more of the logs is needed
unfoldable pub found_by : ℕ → Turn → Option Compared
found_by place (turn.Onward j k) = None
found_by place (turn.Unreadable n) = Some (unreadable n place)
found_by place (turn.Different d) = Some (differs place d)
found_by place turn.BothEnded = None
found_by place (turn.OneEnded d) = None

abbrev pub stopped_at : ℕ → ℕ → ℕ → Turn → Progress
stopped_at ours theirs place w = record { ours = ours; theirs = theirs; place = place; found = found_by place w }

abbrev pub progress_of : Stop → Progress
progress_of s = stopped_at s.ours s.theirs s.place s.turn

-- as far as whole records reach
unfoldable pub advanced : ℕ → List ℕ → List ℕ → Progress
advanced place ours theirs = progress_of (first_stop found_whole place ours theirs)
