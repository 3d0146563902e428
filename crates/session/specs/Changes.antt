-- Lines taken back and a batch added in one step (docs/changes/change.md): what comes back, whole. Definitions only.
-- Assumes nothing.
use Rattle.std.specs.Prelude.{ℕ, ◌+◌, ◌-◌, Bool, ◌&&◌, ltb, List, [], ◌∷◌, ◌++◌, length, ◌==◌, nat_le, nat_lt, Float}
use Rattle.arithmetic.specs.Binary32.{when◌then◌else◌}
use Rattle.lines.specs.declared.Origin.{Origin}
use Rattle.lines.specs.Lines.{most_lines}
use Rattle.admission.specs.Faults.{Fault, fine, must, ◌⊳◌, unless_fault}
use Rattle.session.specs.declared.Session.{Session}
use Rattle.session.specs.Calls.{Fed, Changed}
use Rattle.session.specs.Sessions.{lines_in, origins_in}
use Rattle.session.specs.Withdrawals.{refused_by, or_given, then_fed, fresh_as, without_all}

-- indices of the session as it stands: 15 at the first that is not above the one before, or not below the count
unfoldable pub ascending_fault : ℕ → ℕ → List ℕ → Fault
ascending_fault count low [] = fine
ascending_fault count low (i ∷ is) = must (nat_le low i) 15 ⊳ must (nat_lt i count) 15 ⊳ ascending_fault count (i + 1) is

-- a count over 256 first
unfoldable pub change_fault : ℕ → List ℕ → Fault
change_fault count is = must (nat_le count most_lines) 4 ⊳ ascending_fault count 0 is

-- the rigid count is lowered by one for each index below it
unfoldable pub below_in : ℕ → List ℕ → ℕ
below_in rigid [] = 0
below_in rigid (i ∷ is) = (when ltb i rigid then 1 else 0) + below_in rigid is

unfoldable pub lowered_by : List ℕ → ℕ → ℕ
lowered_by is rigid = rigid - below_in rigid is

-- the fresh session fed the lines that are left, then the batch; or the session as it was
unfoldable pub changed_as : Session → List ℕ → List Float → List ℕ → Fed
changed_as s is xs os =
    unless_fault (refused_by s) (change_fault s.count is)
    (or_given s (then_fed (fresh_as s.wish s.limit (lowered_by is s.rigid) (without_all is (lines_in s))
    (without_all is (origins_in s))) xs os))

-- ---- by origin

-- an origin of this kind and place, whatever its vertex: an edge of this obstacle, or this neighbour
unfoldable pub is_of : ℕ → ℕ → Origin → Bool
is_of kind place o = o.kind == kind && o.place == place

-- the index n, where it is one of those
unfoldable pub index_if : Bool → ℕ → List ℕ
index_if b n = when b then n ∷ [] else []

-- the indices of such origins, counted from n on
unfoldable pub indices_from : ℕ → ℕ → ℕ → List Origin → List ℕ
indices_from kind place n [] = []
indices_from kind place n (o ∷ os) = index_if (is_of kind place o) n ++ indices_from kind place (n + 1) os

-- the lines of a session that have such an origin
abbrev pub indices_of : Session → ℕ → ℕ → List ℕ
indices_of s kind place = indices_from kind place 0 (origins_in s)

-- a call's answer, and how many lines it withdrew: none where it is refused
abbrev pub withdrawing : ℕ → Fed → Changed
withdrawing n r = record { withdrawn = unless_fault (λ (_ : ℕ). 0) r.judged n; fed = r }

unfoldable pub origin_changed_as : Session → ℕ → ℕ → List Float → List ℕ → Changed
origin_changed_as s kind place xs os = withdrawing (length (indices_of s kind place)) (changed_as s (indices_of s kind place) xs os)
