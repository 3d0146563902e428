-- The numbers of a record: of a line list, four a line, or of an obstacle, two a vertex. Definitions only. Assumes nothing.
use Rattle.std.specs.Prelude.{ℕ, ◌*◌, zero, suc, List, [], ◌∷◌, ◌++◌, Float}
use Rattle.replay_records.specs.Answers.{number_at}

-- the first n numbers
unfoldable pub first_numbers : List ℕ → ℕ → List Float
first_numbers s zero = []
first_numbers s (suc n) = first_numbers s n ++ (number_at s (4 * n) ∷ [])
