-- When two records of one place agree, and the first field in which they do not (02, T-09). Definitions only. Assumes nothing.
use Rattle.std.specs.Prelude.{ℕ, Bool, true, false, ◌&&◌, ◌||◌, eqb, Option, Some, None}
use Rattle.answer_records.specs.declared.Answer.{Answer}
use Rattle.answer_logs.specs.Logs.{Entry, outcome, refusal}
use Rattle.comparison.specs.declared.Difference.{Difference}
use Rattle.comparison.specs.declared.Difference.TheVariants as difference

-- the patterns of the two zeros
unfoldable pub is_zero : ℕ → Bool
is_zero pattern = eqb pattern 0 || eqb pattern 0x8000_0000

-- "Two zeros agree whatever their sign"; all other numbers by their bits
unfoldable pub same_number : ℕ → ℕ → Bool
same_number a b = eqb a b || (is_zero a && is_zero b)

-- a field that is the same, and then the rest; or the difference in it
abbrev pub field : Bool → Difference → Option Difference → Option Difference
field true d rest = rest
field false d rest = Some d

-- "outcome, point, failed line or probe count"
unfoldable pub matched_outcomes : Answer → Answer → Option Difference
matched_outcomes a b =
    field (eqb a.code b.code) (difference.Outcome a.code b.code)
    (field (same_number a.x b.x) (difference.PointX a.x b.x)
    (field (same_number a.y b.y) (difference.PointY a.y b.y)
    (field (eqb a.failed b.failed) (difference.FailedLine a.failed b.failed)
    (field (eqb a.probes b.probes) (difference.Probes a.probes b.probes) None))))

-- "A refused scene agrees only with the same refusal number."
unfoldable pub matched_refusals : ℕ → ℕ → Option Difference
matched_refusals m n = field (eqb m n) (difference.Refusal m n) None

abbrev pub matched_entries : Entry → Entry → Option Difference
matched_entries (outcome a) (outcome b) = matched_outcomes a b
matched_entries (outcome a) (refusal n) = Some (difference.OutcomeAndRefusal a.code n)
matched_entries (refusal m) (outcome b) = Some (difference.RefusalAndOutcome m b.code)
matched_entries (refusal m) (refusal n) = matched_refusals m n
