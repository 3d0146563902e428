-- Where a line comes from (02, T-06), and origins as numbers three by three. Definitions only. Assumes nothing.
use Rattle.std.specs.Prelude.{ℕ, ◌+◌, ◌*◌, List, [], ◌∷◌, leb, length}
use Rattle.std.proofs.lemmas.List.Edits.{sets}
use Rattle.arithmetic.specs.Binary32.{when◌then◌else◌}
use Rattle.lines.specs.declared.Origin.{Origin}

abbrev pub origin : ℕ → ℕ → ℕ → Origin
origin k p v = record { kind = k; place = p; vertex = v }

-- "0 unknown, 1 edge, 2 neighbour; then the places, 0 where there is none"
abbrev pub unknown : Origin
unknown = origin 0 0 0

-- "obstacle and edge (by its left vertex)"
abbrev pub edge_origin : ℕ → ℕ → Origin
edge_origin obstacle left = origin 1 obstacle left

abbrev pub neighbour_origin : ℕ → Origin
neighbour_origin place = origin 2 place 0

-- "three whole numbers a line", "kept as they stand"
unfoldable pub origins_of : List ℕ → List Origin
origins_of [] = []
origins_of (a ∷ []) = []
origins_of (a ∷ b ∷ []) = []
origins_of (a ∷ b ∷ c ∷ rest) = origin a b c ∷ origins_of rest

abbrev pub three_of : Origin → List ℕ
three_of o = o.kind ∷ o.place ∷ o.vertex ∷ []

-- an origin's numbers stored as those of the i-th, where there is room for it
unfoldable pub origin_stored : List ℕ → ℕ → Origin → List ℕ
origin_stored b i o = when leb (3 * i + 3) (length b) then sets b (3 * i) (three_of o) else b
