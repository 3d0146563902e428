-- What a pass over lent lines tells: 4 beyond 256 of them, else how the pass over them stands, from the start or taken
-- up again at a line. Definitions only. Assumes nothing.
use Rattle.std.specs.Prelude.{ℕ, List, length, take, drop, leb, Float}
use Rattle.arithmetic.specs.Binary32.{when◌then◌else◌}
use Rattle.common.specs.declared.Vec2.{Vec2}
use Rattle.lines.specs.declared.Line.{Line}
use Rattle.lines.specs.Lines.{most_lines}
use Rattle.one_line.specs.OneLine.{Objective}
use Rattle.pass_2d.specs.Walk.{walk}
use Rattle.pass_2d.specs.Pass.{Pass, feasible, refused, pass_line, pass}

unfoldable pub pass_call : Objective → Float → List Line → Pass
pass_call o limit lines = when leb (length lines) most_lines then pass o limit lines else refused 4

-- the lines from `from` on, the probes counted from 0
unfoldable pub resumed_pass : Objective → Float → List Line → ℕ → Vec2 → Pass
resumed_pass o limit lines from p =
    when leb (length lines) most_lines then walk (pass_line o limit) (take from lines) (drop from lines) (feasible p 0) else refused 4
