-- Lines that do not matter to P3's session, and one that does: exactly 0 is not strictly met; and one that matters to a
-- line behind it. antt computes each row by the definitions that the contracts of `start`, `batch` and `first_unmet`
-- cite. Assumes nothing.
use Prim.Native.Nat.{ℕ}
use mathlib.Core.Path.{◌≡◌, refl}
use mathlib.Core.List.{List, [], ◌∷◌, map}
use Rattle.common.specs.Vectors.{vec}
use Rattle.lines.specs.declared.Line.{Line}
use Rattle.lines.specs.Lines.{line, lines_of, numbers_of}
use Rattle.lines.specs.LineFaults.{line_fault, lines_fault}
use Rattle.admission.specs.Faults.{within, inside}
use Rattle.one_line.specs.OneLine.{parallel}
use Rattle.linear_programming.specs.Whole.{Outcome, stands, solving, no_line, failed_line}
use Rattle.linear_programming.specs.Admit.{wish_fault, judged_list, list_call}
use Rattle.linear_programming.specs.Read.{failed_of}
use Rattle.linear_programming.specs.Resume.{resumed}
use Rattle.linear_programming.proofs.Computed.{computed as solved, +, −}
use Rattle.session.specs.declared.Session.{Session}
use Rattle.session.specs.Calls.{Unmet, At, Nothing}
use Rattle.session.specs.Sessions.{outcome_in, blank_lines, blank_origins, blank_session, started_as}
use Rattle.session.specs.Batches.{origins_for, fitting, batch_fault, worked, fed_with, fed_as}
use Rattle.session.specs.Meeting.{is_met, first_unmet, point_now, named, unmet_as}
use Rattle.histories.proofs.WithdrawalCases.{o, right, A}

-- the session that is asked about a batch, and then fed it
abbrev asked : Session
asked = (fed_as (started_as o (+ 2) 0).session (numbers_of (A ∷ []))).session

pub record Case : Type 0 where
  pub lines : List Line
  pub name : Unmet
  pub after : Outcome

abbrev case : List Line → Unmet → Outcome → Case
case ls name after = record { lines = ls; name = name; after = after }

abbrev pub by_the_rules : List Line → Case
by_the_rules ls = case ls (unmet_as asked (numbers_of ls)) (outcome_in (fed_as asked (numbers_of ls)).session)

-- strictly met by (0,1)
abbrev z : Line
z = line (vec (+ 0) (− 1)) right

-- at the point of P3, with so many probes
abbrev stays : ℕ → Outcome
stays n = stands (solving (vec (+ 0) (+ 1))) no_line n

pub table : List Case
table =
    case [] Nothing (stays 1)
    ∷ case (z ∷ z ∷ []) Nothing (stays 3)
    ∷ case (z ∷ A ∷ []) (At 2) (stays 5)
    ∷ case (A ∷ []) (At 1) (stays 3)
    ∷ []

-- each row's batch, asked about and fed by the definitions, has the row's answers
pub met-cases : map (λ (c : Case). by_the_rules c.lines) table ≡ table
unfolding table solved within inside line_fault list_call judged_list lines_of numbers_of wish_fault lines_fault started_as
    blank_lines blank_origins blank_session
    origins_for fitting batch_fault worked fed_with fed_as resumed is_met first_unmet point_now named unmet_as
met-cases = refl

-- ---- a line behind one that was dropped

-- A at limit 4, fed these lines
abbrev wider : List Line → Session
wider ls = (fed_as (fed_as (started_as o (+ 4) 0).session (numbers_of (A ∷ []))).session (numbers_of ls)).session

-- strictly met by (0,1)
abbrev W : Line
W = line (vec (+ 1) (+ 0)) (vec (+ 0) (+ 1))

abbrev later : Line
later = line (vec (+ 2) (+ 0)) (vec (+ 0) (− 1))

-- W is not named and changes nothing; but the line behind it fails by it, and is solved without it
pub dropped-cases : (unmet_as (wider []) (numbers_of (W ∷ [])) ≡ Nothing)
    × (outcome_in (wider (W ∷ [])) ≡ stays 2)
    × (failed_of (wider (W ∷ later ∷ [])).failed ≡ failed_line (record { index = 2; cause = parallel 1 }))
    × (outcome_in (wider (later ∷ [])) ≡ stands (solving (vec (+ 2) (+ 1))) no_line 3)
unfolding table solved within inside line_fault list_call judged_list lines_of numbers_of wish_fault lines_fault started_as
    blank_lines blank_origins blank_session
    origins_for fitting batch_fault worked fed_with fed_as resumed is_met first_unmet point_now named unmet_as
dropped-cases = (refl, refl, refl, refl)
