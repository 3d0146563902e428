-- An obstacle's head, its kind and vertex count, and what is admitted of it (01, "What is admitted", "Refusal
-- numbers"). Definitions only. Assumes nothing.
use Rattle.std.specs.Prelude.{ℕ, Bool, ◌&&◌, ◌||◌, eqb, leb}
use Rattle.admission.specs.declared.Head.{Head}
use Rattle.admission.specs.Faults.{fits_behind}

abbrev pub head_of : ℕ → ℕ → Head
head_of k c = record { kind = k; count = c }

-- "1 (closed)", "2 (open)"
abbrev pub closed_kind : ℕ
closed_kind = 1

abbrev pub open_kind : ℕ
open_kind = 2

-- "64 vertices each, 192 together"
abbrev pub most_vertices : ℕ
most_vertices = 64

abbrev pub most_together : ℕ
most_together = 192

-- "obstacle kind is neither 1 (closed) nor 2 (open)" gets 3
unfoldable pub is_kind : ℕ → Bool
is_kind kind = eqb kind closed_kind || eqb kind open_kind

-- "At most .. 64 vertices each, 192 together": whether an obstacle may have count vertices, behind the total of those before it
unfoldable pub room_for : ℕ → ℕ → Bool
room_for total count = leb count most_vertices && fits_behind most_together total count

-- "open obstacle with no vertices" gets 5
unfoldable pub is_empty_open : ℕ → ℕ → Bool
is_empty_open kind count = eqb kind open_kind && eqb count 0
