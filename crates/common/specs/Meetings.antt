-- When two lines meet: the Rust's `time_to_intersect_lines`, each operation in its order. Definitions only. Assumes nothing.
use Rattle.std.specs.Prelude.{Option, Some, None}
use Rattle.arithmetic.specs.Binary32.{◌≈ᶠ◌, 0ᶠ, when◌then◌else◌}
use Rattle.common.specs.declared.Vec2.{Vec2}
use Rattle.common.specs.Vectors.{vec, sub_of, div_of, determinant_of}

-- by the first line's start as the second's sees it, and both deltas: "Only a determinant of exactly 0 counts as
-- parallel" (02, T-08)
abbrev pub times_by : Vec2 → Vec2 → Vec2 → Option Vec2
times_by relative delta1 delta2 =
    when determinant_of delta2 delta1 ≈ᶠ 0ᶠ then None
    else Some (div_of (vec (determinant_of relative delta2) (determinant_of relative delta1)) (determinant_of delta2 delta1))

-- the line from start1 to end1 and the one from start2 to end2: the time along the first as x, along the second as y
unfoldable pub times_of : Vec2 → Vec2 → Vec2 → Vec2 → Option Vec2
times_of start1 end1 start2 end2 = times_by (sub_of start1 start2) (sub_of end1 start1) (sub_of end2 start2)
