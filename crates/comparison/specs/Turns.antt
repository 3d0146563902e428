-- What stands at a byte of each of two logs, in the code's words. Definitions only. Assumes nothing.
use Rattle.std.specs.Prelude.{ℕ, List, Option, Some, None}
use Rattle.answer_records.specs.declared.Answer.{Answer}
use Rattle.answer_logs.specs.Logs.{Logged, nothing, faulty, placed, outcome, refusal, logged_at}
use Rattle.answer_logs.specs.Parts.{whole_at}
use Rattle.comparison.specs.declared.Difference.{Difference}
use Rattle.comparison.specs.declared.Difference.TheVariants as difference
use Rattle.comparison.specs.Places.{Turn}
use Rattle.comparison.specs.Places as turn
use Rattle.comparison.specs.Agreeing.{matched_outcomes, matched_refusals}

-- behind two records that agree the comparison goes on
unfoldable pub turn_by : Option Difference → ℕ → ℕ → Turn
turn_by None j k = turn.Onward j k
turn_by (Some d) j k = turn.Different d

unfoldable pub against_end : Logged → Turn
against_end nothing = turn.BothEnded
against_end (faulty m) = turn.OneEnded difference.NoneOfOurs
against_end (placed (outcome a) j) = turn.OneEnded difference.NoneOfTheirs
against_end (placed (refusal m) j) = turn.OneEnded difference.NoneOfTheirs

unfoldable pub against_outcome : Logged → Answer → ℕ → Turn
against_outcome nothing b k = turn.OneEnded difference.NoneOfOurs
against_outcome (faulty m) b k = turn.Different difference.NoneOfOurs
against_outcome (placed (outcome a) j) b k = turn_by (matched_outcomes a b) j k
against_outcome (placed (refusal m) j) b k = turn.Different (difference.RefusalAndOutcome m b.code)

unfoldable pub against_refusal : Logged → ℕ → ℕ → Turn
against_refusal nothing n k = turn.OneEnded difference.NoneOfOurs
against_refusal (faulty m) n k = turn.Different difference.NoneOfOurs
against_refusal (placed (outcome a) j) n k = turn.Different (difference.OutcomeAndRefusal a.code n)
against_refusal (placed (refusal m) j) n k = turn_by (matched_refusals m n) j k

unfoldable pub turn_in : Logged → Logged → Turn
turn_in ours nothing = against_end ours
turn_in ours (faulty n) = turn.Unreadable n
turn_in ours (placed (outcome b) k) = against_outcome ours b k
turn_in ours (placed (refusal n) k) = against_refusal ours n k

-- at a byte of each part, and of each whole log
unfoldable pub part_turn : List ℕ → List ℕ → ℕ → ℕ → Turn
part_turn ours theirs at by = turn_in (whole_at ours at) (whole_at theirs by)

unfoldable pub whole_turn : List ℕ → List ℕ → ℕ → ℕ → Turn
whole_turn ours theirs at by = turn_in (logged_at ours at) (logged_at theirs by)
