-- What a program keeps of one read for the next. Definitions only. Assumes nothing.
use Rattle.std.specs.Prelude.{ℕ, ◌-◌, List, ◌++◌, ltb, length, take, drop}
use Rattle.arithmetic.specs.Binary32.{when◌then◌else◌}

-- how many bytes are kept, and what the buffer holds then
pub record Kept : Type 0 where
  pub count : ℕ
  pub contents : List ℕ

abbrev pub kept : ℕ → List ℕ → Kept
kept n l = record { count = n; contents = l }

-- n bytes from a place on, moved to the start
abbrev pub shifted : ℕ → ℕ → List ℕ → List ℕ
shifted from n l = take n (drop from l) ++ drop n l

-- those between two places of the buffer
unfoldable pub kept_over : ℕ → ℕ → List ℕ → Kept
kept_over from end l = when ltb end from then kept 0 l else (when ltb (length l) end then kept 0 l else kept (end - from)
    (shifted from (end - from) l))
