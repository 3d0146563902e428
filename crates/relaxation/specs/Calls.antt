-- What relaxation over lent lines tells: 4 beyond 256 of them, else how it stands, taken up at a line. Definitions
-- only. Assumes nothing.
use Rattle.std.specs.Prelude.{ℕ, List, length, take, drop, leb, Float}
use Rattle.arithmetic.specs.Binary32.{when◌then◌else◌}
use Rattle.common.specs.declared.Vec2.{Vec2}
use Rattle.lines.specs.declared.Line.{Line}
use Rattle.lines.specs.Lines.{most_lines}
use Rattle.pass_2d.specs.Walk.{walk}
use Rattle.relaxation.specs.Relax.{Relaxed, relaxed, relax_refused, relax_line}

-- the lines from `from` on, the probes counted from 0
unfoldable pub resumed_relaxation : ℕ → Float → List Line → ℕ → Vec2 → Float → Relaxed
resumed_relaxation rigid limit lines from p depth =
    when leb (length lines) most_lines then walk (relax_line rigid limit) (take from lines) (drop from lines)
    (relaxed p depth 0) else relax_refused 4
