-- 02, T-07: where the neighbours' numbers of a version 2 record stand, and records that differ there alone. Definitions
-- only. Assumes nothing.
use Rattle.std.specs.Prelude.{ℕ, ◌+◌, ◌-◌, ◌*◌, ◌%◌, ◌≡◌, Bool, false, ◌&&◌, List, leb, ltb, length, get_or}
use Rattle.dodgy_2d.specs.Scenes.{most_obstacles, most_neighbours}
use Rattle.fields.specs.Got.{Got, refused, got, then}
use Rattle.scene_records.specs.Steps.{count}
use Rattle.scene_records.specs.Parts.{cart, obstacles}

-- how many neighbour lines a record has, and the place where they begin; refused where it is refused before them
unfoldable pub lines_from : List ℕ → Got ℕ
lines_from s =
    then (cart s 3) λ c b.
    then (count most_obstacles s b) λ n d.
    then (obstacles s n 0 d) λ os e.
    count most_neighbours s e

-- "before each neighbour line's point, a four-byte neighbour number": four of the twenty bytes of each line
unfoldable pub number_stands : Got ℕ → ℕ → Bool
number_stands (refused r) i = false
number_stands (got m from) i = leb from i && ltb i (from + 20 * m) && ltb ((i - from) % 20) 4

-- records of one length that agree in every byte but those of the numbers
pub record SameButNumbers (s t : List ℕ) : Type 0 where
  pub long : length s ≡ length t
  pub elsewhere : (i : ℕ) → number_stands (lines_from s) i ≡ false → get_or s i 0 ≡ get_or t i 0
