-- Lines, and lists of lines as numbers four by four (01, "What must change shape"). Definitions only. Assumes nothing.
use Rattle.std.specs.Prelude.{ℕ, ◌+◌, ◌*◌, List, [], ◌∷◌, ◌++◌, leb, length, Float}
use Rattle.std.proofs.lemmas.List.Edits.{sets}
use Rattle.std.specs.Float.{nan}
use Rattle.arithmetic.specs.Binary32.{bits, when◌then◌else◌}
use Rattle.common.specs.declared.Vec2.{Vec2}
use Rattle.common.specs.Vectors.{vec}
use Rattle.lines.specs.declared.Line.{Line}

abbrev pub line : Vec2 → Vec2 → Line
line p d = record { point = p; direction = d }

-- 0.00001 as f32
abbrev pub epsilon : Float
epsilon = bits 0x3727_C5AC

-- "256 lines in a list or session"
abbrev pub most_lines : ℕ
most_lines = 256

-- the point, then the direction
unfoldable pub lines_of : List Float → List Line
lines_of [] = []
lines_of (a ∷ []) = []
lines_of (a ∷ b ∷ []) = []
lines_of (a ∷ b ∷ c ∷ []) = []
lines_of (a ∷ b ∷ c ∷ d ∷ rest) = line (vec a b) (vec c d) ∷ lines_of rest

-- what stands past the end of a list
abbrev pub off_line : Line
off_line = line (vec nan nan) (vec nan nan)

-- ---- and back

abbrev pub four_of : Line → List Float
four_of l = l.point.x ∷ l.point.y ∷ l.direction.x ∷ l.direction.y ∷ []

unfoldable pub numbers_of : List Line → List Float
numbers_of [] = []
numbers_of (l ∷ ls) = four_of l ++ numbers_of ls

-- the line at an index is `l`; numbers without room for it stay as they are
unfoldable pub line_stored : List Float → ℕ → Line → List Float
line_stored b i l = when leb (4 * i + 4) (length b) then sets b (4 * i) (four_of l) else b
