-- `is_edge_covered`: whether a line that the same obstacle made earlier covers an edge. Definitions only. Assumes nothing.
use Rattle.std.specs.Prelude.{Bool, false, ◌&&◌, ◌||◌, List, [], ◌∷◌, Float}
use Rattle.arithmetic.specs.Binary32.{◌⊖◌, ◌⊘◌, ◌≤ᶠ◌, bits}
use Rattle.common.specs.declared.Vec2.{Vec2}
use Rattle.common.specs.Vectors.{sub_of, div_of, determinant_of}
use Rattle.lines.specs.declared.Line.{Line}

-- EDGE_COVER_EPSILON, 1e-5 as f32
abbrev pub cover_epsilon : Float
cover_epsilon = bits 0x3727_C5AC

-- a vertex is "deep" enough in the invalid half of a line
unfoldable pub is_deep : Vec2 → Float → Float → Line → Bool
is_deep vertex horizon margin l =
    margin ⊘ horizon ⊖ cover_epsilon ≤ᶠ determinant_of (sub_of (div_of vertex horizon) l.point) l.direction

unfoldable pub covers : Vec2 → Vec2 → Float → Float → Line → Bool
covers left right horizon margin l = is_deep left horizon margin l && is_deep right horizon margin l

-- "The cover test sees only lines of the same obstacle made earlier": those of the list
unfoldable pub is_edge_covered : Vec2 → Vec2 → Float → Float → List Line → Bool
is_edge_covered left right horizon margin [] = false
is_edge_covered left right horizon margin (l ∷ ls) =
    covers left right horizon margin l || is_edge_covered left right horizon margin ls
