-- What a comparison tells, and how far two parts were compared, with a refusal's number. Definitions only. Assumes nothing.
use Rattle.std.specs.Prelude.{ℕ, Option, Some, None, Result, Ok, Err}
use Rattle.admission.specs.Refusals.{number_of}
use Rattle.comparison.specs.declared.Difference.{Difference}
use Rattle.comparison.specs.declared.Differing.{Differing}
use Rattle.comparison.specs.declared.UnreadableAt.{UnreadableAt}
use Rattle.comparison.specs.declared.Progress.{Progress as ProgressCode}

-- all places agree; the first place that differs, and how; or an unreadable answer's fault (1 or 2), and its place
pub data Compared : Type 0 where
  agree : Compared
  differs : ℕ → Difference → Compared
  unreadable : ℕ → ℕ → Compared

-- what the code says of it
abbrev pub compared_of : Result (Option Differing) UnreadableAt → Compared
compared_of (Ok None) = agree
compared_of (Ok (Some d)) = differs d.place d.difference
compared_of (Err e) = unreadable (number_of e.refusal) e.place

-- ---- parts

-- the bytes of each that are used, the next place, and what is told whatever follows, if that is known
pub record Progress : Type 0 where
  pub ours : ℕ
  pub theirs : ℕ
  pub place : ℕ
  pub found : Option Compared

-- what the code says of it
abbrev pub found_of : Option (Result (Option Differing) UnreadableAt) → Option Compared
found_of None = None
found_of (Some verdict) = Some (compared_of verdict)

abbrev pub progress_in : ProgressCode → Progress
progress_in p = record { ours = p.ours; theirs = p.theirs; place = p.place; found = found_of p.found }
