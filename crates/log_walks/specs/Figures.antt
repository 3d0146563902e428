-- What of a log's records is a fallback, and how many bytes they have (02, T-10). Definitions only. Assumes nothing.
use Rattle.std.specs.Prelude.{ℕ, Option, Some, None, ◌+◌, ◌-◌, Bool, ◌&&◌, List, [], ◌∷◌, leb, take, drop}
use Rattle.arithmetic.specs.Binary32.{when◌then◌else◌}
use Rattle.answer_records.specs.declared.Reply.{Reply}
use Rattle.answer_records.specs.declared.Reply.TheVariants as reply
use Rattle.answer_logs.specs.Logs.{Entry, outcome, refusal}

-- "outcomes 3, 4 or 5", whatever the point; a refusal is a record and no fallback
unfoldable pub is_fallback : ℕ → Bool
is_fallback code = leb 3 code && leb code 5

abbrev pub fallback : Entry → ℕ
fallback (outcome a) = when is_fallback a.code then 1 else 0
fallback (refusal n) = 0

-- the code of an outcome
abbrev pub outcome_code : Reply → Option ℕ
outcome_code (reply.Outcome a) = Some a.code
outcome_code (reply.Refusal r) = None

-- the same of a record by its code alone
abbrev pub fallback_by : Option ℕ → ℕ
fallback_by (Some code) = when is_fallback code then 1 else 0
fallback_by None = 0

unfoldable pub fallbacks : List Entry → ℕ
fallbacks [] = 0
fallbacks (e ∷ l) = fallback e + fallbacks l

-- "from record a up to but not including record b": the full walk
unfoldable pub fallbacks_among : ℕ → ℕ → List Entry → ℕ
fallbacks_among a b l = fallbacks (take (b - a) (drop a l))

-- the bytes of a record
abbrev pub size_of : Entry → ℕ
size_of (outcome a) = 18
size_of (refusal n) = 4

unfoldable pub sizes : List Entry → ℕ
sizes [] = 0
sizes (e ∷ l) = size_of e + sizes l
