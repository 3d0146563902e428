-- The rule of the table of first guesses inside `sqrt`, and the test of a row that shows it. Definitions only. Assumes nothing.
use Rattle.std.specs.Prelude.{ℕ, ◌+◌, ◌-◌, ◌*◌, ◌/◌, ◌≤◌, ◌<◌}

-- the root of w lies at most `far` from g
pub record RootWithin (far w g : ℕ) : Type 0 where
  pub low : (g - far) * (g - far) ≤ w
  pub high : w ≤ (g + far) * (g + far)

-- the table's rule: so far may a first guess lie from the root
abbrev pub farthest : ℕ
farthest = 2048

-- so many numbers stand in a row of the table, which are those from i * row_width on
abbrev pub row_width : ℕ
row_width = 8796093022208

-- the guess in the middle of a row
abbrev pub middle : ℕ → ℕ → ℕ
middle start rise = start + rise / 2

-- The test of row i, whose guesses rise from `start` by `rise`. At both ends a guess is not too far above the root, nor too
-- far below the root's tangent at the middle guess, which lies above the root. What it says of all between is `row_Near`.
pub record RowTest (i start rise : ℕ) : Type 0 where
  pub gentle : rise < 1048576
  pub low-start : (start - farthest) * (start - farthest) ≤ i * row_width
  pub low_end : (start - farthest + rise) * (start - farthest + rise) ≤ (i + 1) * row_width
  pub high-start : i * row_width + middle start rise * middle start rise ≤ 2 * (middle start rise * (start + farthest - 1))
  pub high_end : (i + 1) * row_width + middle start rise * middle start rise
      ≤ 2 * (middle start rise * (start + farthest - 1 + rise))
