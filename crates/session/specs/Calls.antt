-- What a call of a session tells, and the session that stands then; and what the code's answers say of both.
-- Definitions only. Assumes nothing.
use Rattle.std.specs.Prelude.{ℕ, ⊤, Result, Ok, Err, Option, Some, None}
use Rattle.admission.specs.declared.refusal.Refusal.{Refusal}
use Rattle.admission.specs.Refusals.{number_of}
use Rattle.admission.specs.Faults.{Fault, fine, fault, fault_of}
use Rattle.session.specs.declared.Session.{Session}

-- how the call is judged, and the session
pub record Fed : Type 0 where
  pub judged : Fault
  pub session : Session

-- the same of a change by origin, and how many lines it withdrew
pub record Changed : Type 0 where
  pub withdrawn : ℕ
  pub fed : Fed

-- the first line of a batch that a session's point does not strictly meet, by the index that the line gets; or that
-- there is none; or the number of a refusal
pub data Unmet : Type 0 where
  At : ℕ → Unmet
  Nothing : Unmet
  Refused : ℕ → Unmet

-- ---- what the code's answers say

-- an answer, and the session that the call left
abbrev pub fed_of : Result ⊤ Refusal → Session → Fed
fed_of r s = record { judged = fault_of r; session = s }

-- a session that was made; where it was refused, another one stands
abbrev pub made_of : Session → Result Session Refusal → Fed
made_of s (Ok t) = record { judged = fine; session = t }
made_of s (Err r) = record { judged = fault (number_of r); session = s }

-- how many lines were withdrawn, none where it was refused, and the session that the call left
abbrev pub changed_of : Result ℕ Refusal → Session → Changed
changed_of (Ok n) s = record { withdrawn = n; fed = record { judged = fine; session = s } }
changed_of (Err r) s = record { withdrawn = 0; fed = record { judged = fault (number_of r); session = s } }

abbrev pub unmet_of : Result (Option ℕ) Refusal → Unmet
unmet_of (Ok (Some i)) = At i
unmet_of (Ok None) = Nothing
unmet_of (Err r) = Refused (number_of r)
