-- 01, "Start" and "A line is met ..": the 2D pass over a list. Definitions only. Assumes nothing.
use Rattle.std.specs.Prelude.{ℕ, ◌+◌, Bool, ◌&&◌, List, [], length, Float}
use Rattle.arithmetic.specs.Binary32.{◌⊗◌, ◌<ᶠ◌, 0ᶠ, when◌then◌else◌, finite}
use Rattle.common.specs.declared.Vec2.{Vec2}
use Rattle.common.specs.Vectors.{sub_of, mul_of, determinant_of, length_squared_of, normalize_of}
use Rattle.lines.specs.declared.Line.{Line}
use Rattle.pass_2d.specs.Walk.{walk}
use Rattle.one_line.specs.OneLine.{Objective, toward, along, Cause, Found, at, fails, refuses, one_line}

-- "the wish, or, if its squared length > limit², its normalized form times the limit"; along a direction "its start is
-- direction times limit"
unfoldable pub start : Objective → Float → Vec2
start (toward wish) limit = when limit ⊗ limit <ᶠ length_squared_of wish then mul_of (normalize_of wish) limit else wish
start (along d) limit = mul_of d limit

-- the line that a pass failed at, and what left nothing of it
pub record Failure : Type 0 where
  pub index : ℕ
  pub cause : Cause

-- the pass so far: the point now; or the line it failed at, with the point before it; each with the probes; or a refusal
pub data Pass : Type 0 where
  feasible : Vec2 → ℕ → Pass
  failed : Failure → Vec2 → ℕ → Pass
  refused : ℕ → Pass

unfoldable pub finite_point : Vec2 → Bool
finite_point p = finite p.x && finite p.y

-- refusal 9: the point is not finite. "An inner solve is judged only by what it hands on"
unfoldable pub judged : Objective → Vec2 → ℕ → Pass
judged (toward wish) p n = when finite_point p then feasible p n else refused 9
judged (along d) p n = feasible p n

-- what the solve of line k leaves, p the point before it and n the probes up to it, its comparison counted
unfoldable pub solved : Objective → ℕ → Vec2 → ℕ → Found → Pass
solved o k p n (at q m) = judged o q (n + m)
solved o k p n (fails m cause) = failed (record { index = k; cause = cause }) p (n + m)
solved o k p n refuses = refused 8

-- "A line is met if determinant(direction, point now − line point) > 0. Exactly 0 is solved again."
unfoldable pub pass_line : Objective → Float → List Line → Line → Pass → Pass
pass_line o limit earlier own (feasible p n) =
    when 0ᶠ <ᶠ determinant_of own.direction (sub_of p own.point) then feasible p (n + 1)
    else solved o (length earlier) p (n + 1) (one_line o limit own earlier)
pass_line o limit earlier own (failed f p n) = failed f p n
pass_line o limit earlier own (refused r) = refused r

unfoldable pub pass : Objective → Float → List Line → Pass
pass o limit lines = walk (pass_line o limit) [] lines (judged o (start o limit) 0)
