-- The rules taken up again: a list whose first lines have been worked, and left a phase and a failed line. Definitions
-- only. Assumes nothing.
use Rattle.std.specs.Prelude.{ℕ, ◌+◌, List, take, drop, leb, Float}
use Rattle.common.specs.declared.Vec2.{Vec2}
use Rattle.lines.specs.declared.Line.{Line}
use Rattle.lines.specs.Lines.{most_lines}
use Rattle.pass_2d.specs.Walk.{walk}
use Rattle.one_line.specs.OneLine.{toward}
use Rattle.pass_2d.specs.Pass.{feasible, pass_line}
use Rattle.relaxation.specs.Relax.{relaxed, relax_line}
use Rattle.linear_programming.specs.Whole.{Phase, solving, relaxing, rigid_failure, Failed, Outcome, stands, refusal, relaxed_outcome, after_pass}
use Rattle.admission.specs.Faults.{must}
use Rattle.linear_programming.specs.Admit.{◌⟫◌}

-- the lines from `from` on, the probes counted from 0
unfoldable pub resumed : ℕ → Vec2 → Float → List Line → ℕ → Phase → Failed → Outcome
resumed rigid wish limit lines from (solving p) f =
    after_pass rigid limit lines (walk (pass_line (toward wish) limit) (take from lines) (drop from lines) (feasible p 0))
resumed rigid wish limit lines from (relaxing p depth) f =
    relaxed_outcome f (walk (relax_line rigid limit) (take from lines) (drop from lines) (relaxed p depth 0))
resumed rigid wish limit lines from (rigid_failure k p) f = stands (rigid_failure k p) f 0

-- the first `count` of the lines, which are too many beyond 256
unfoldable pub resumed_call : ℕ → Vec2 → Float → List Line → ℕ → ℕ → Phase → Failed → Outcome
resumed_call rigid wish limit lines count from ph f =
    must (leb count most_lines) 4 ⟫ resumed rigid wish limit (take count lines) from ph f

-- the probes of the lines worked before
abbrev pub add_probes : ℕ → Outcome → Outcome
add_probes n (stands ph f m) = stands ph f (n + m)
add_probes n (refusal r) = refusal r
