-- 01, "What is admitted" and "Refusal numbers" for a line and for lines: the first fault in order is told. Definitions
-- only. Assumes nothing.
use Rattle.std.specs.Prelude.{List, [], ◌∷◌, Float}
use Rattle.arithmetic.specs.Binary32.{bits, finite}
use Rattle.admission.specs.Faults.{Fault, fine, must, ◌⊳◌, within, inside}
use Rattle.common.specs.Vectors.{length_squared_of}
use Rattle.lines.specs.declared.Line.{Line}

-- 268,435,456
abbrev pub line_reach : Float
line_reach = bits 0x4D80_0000

-- 1023/1024 and 1025/1024
abbrev pub band_low : Float
band_low = bits 0x3F7F_C000

abbrev pub band_high : Float
band_high = bits 0x3F80_2000

-- "7 follows both direction components"
unfoldable pub line_fault : Line → Fault
line_fault l =
    must (within line_reach l.point.x) 6
    ⊳ must (within line_reach l.point.y) 6
    ⊳ must (finite l.direction.x) 6
    ⊳ must (finite l.direction.y) 6
    ⊳ must (inside band_low band_high (length_squared_of l.direction)) 7

-- "lines in order (6, 7)"
unfoldable pub lines_fault : List Line → Fault
lines_fault [] = fine
lines_fault (l ∷ ls) = line_fault l ⊳ lines_fault ls
