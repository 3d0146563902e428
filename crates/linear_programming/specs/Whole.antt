-- 01, "The whole-list rules run the 2D pass over the list, then relaxation from k": over a complete list, pass by pass.
-- Definitions only. Assumes nothing.
use Rattle.std.specs.Prelude.{ℕ, List, take, drop, ltb, Float}
use Rattle.arithmetic.specs.Binary32.{0ᶠ, when◌then◌else◌}
use Rattle.common.specs.declared.Vec2.{Vec2}
use Rattle.lines.specs.declared.Line.{Line}
use Rattle.pass_2d.specs.Walk.{walk}
use Rattle.one_line.specs.OneLine.{toward}
use Rattle.pass_2d.specs.Pass.{Failure, Pass, feasible, failed, refused, pass}
use Rattle.relaxation.specs.Relax.{Relaxed, relaxed, relax_refused, relax_line}

-- "solving with its point, relaxing with point and penetration, rigid failure with index and point"
pub data Phase : Type 0 where
  solving : Vec2 → Phase
  relaxing : Vec2 → Float → Phase
  rigid_failure : ℕ → Vec2 → Phase

pub data Failed : Type 0 where
  no_line : Failed
  failed_line : Failure → Failed

-- the phase, the failed line and the probes; or the number of a refusal
pub data Outcome : Type 0 where
  stands : Phase → Failed → ℕ → Outcome
  refusal : ℕ → Outcome

abbrev pub relaxed_outcome : Failed → Relaxed → Outcome
relaxed_outcome f (relaxed p depth n) = stands (relaxing p depth) f n
relaxed_outcome f (relax_refused r) = refusal r

-- "Failure at index k, k < rigid count: rigid failure; the point before k stands and later lines are not looked at.
-- k ≥ rigid count: relaxation begins at line k itself with penetration 0."
unfoldable pub after_pass : ℕ → Float → List Line → Pass → Outcome
after_pass rigid limit lines (feasible p n) = stands (solving p) no_line n
after_pass rigid limit lines (failed f p n) =
    let k = f.index in
    when ltb k rigid then stands (rigid_failure k p) (failed_line f) n
    else relaxed_outcome (failed_line f) (walk (relax_line rigid limit) (take k lines) (drop k lines) (relaxed p 0ᶠ n))
after_pass rigid limit lines (refused r) = refusal r

unfoldable pub whole_list : ℕ → Vec2 → Float → List Line → Outcome
whole_list rigid wish limit lines = after_pass rigid limit lines (pass (toward wish) limit lines)
