-- 01, "One-line solve" and "The objective is either a point or a direction". Definitions only. Assumes nothing.
use Rattle.std.specs.Prelude.{ℕ, ◌+◌, Bool, Float}
use mathlib.Core.List.{List, foldl}
use Rattle.std.specs.Float.Ieee.{neg}
use Rattle.arithmetic.specs.Binary32.{◌⊕◌, ◌⊖◌, ◌⊗◌, ◌⊘◌, ◌<ᶠ◌, ◌≤ᶠ◌, 0ᶠ, when◌then◌else◌}
use Rattle.arithmetic.specs.Ends.{abs_of, min_of, max_of, clamp_of}
use Rattle.arithmetic.specs.Root.{sqrt_of}
use Rattle.common.specs.declared.Vec2.{Vec2}
use Rattle.common.specs.Vectors.{add_of, sub_of, mul_of, dot_of, determinant_of}
use Rattle.lines.specs.declared.Line.{Line}
use Rattle.lines.specs.Lines.{epsilon}

pub data Objective : Type 0 where
  toward : Vec2 → Objective
  along : Vec2 → Objective

-- what leaves nothing of a line: the circle, or the earlier line at an index, by its wrong side where it is parallel or
-- by the ends that cross there
pub data Cause : Type 0 where
  circle : Cause
  parallel : ℕ → Cause
  crossing : ℕ → Cause

-- the interval left on a line, with the earlier lines looked at so far; or none
pub data Interval : Type 0 where
  between : Float → Float → ℕ → Interval
  empty : ℕ → Cause → Interval

-- "a = line point · direction; disc = a·a + limit·limit − line point · line point; disc < 0 fails. Interval −a − √disc
-- to −a + √disc"
unfoldable pub chord : Float → Line → Interval
chord limit own =
    let a = dot_of own.point own.direction in
    let disc = a ⊗ a ⊕ limit ⊗ limit ⊖ dot_of own.point own.point in
    let root = sqrt_of disc in
    when disc <ᶠ 0ᶠ then empty 0 circle else between (neg a ⊖ root) (neg a ⊕ root) 0

-- one more line looked at: it fails there, by a cause, or the ends are as the line left them
unfoldable pub unless_fails : Bool → Cause → Float → Float → ℕ → Interval
unless_fails b cause left right n = when b then empty (n + 1) cause else between left right (n + 1)

-- "t = num / det caps the right end if det ≥ 0, raises the left end if not; left > right fails". The line's index is
-- the count of those looked at before it
unfoldable pub cut : Float → Float → ℕ → Float → Float → Interval
cut left right n det t =
    let capped = min_of right t in
    let raised = max_of left t in
    when 0ᶠ ≤ᶠ det then unless_fails (capped <ᶠ left) (crossing n) left capped n else unless_fails (right <ᶠ raised)
    (crossing n) raised right n

-- one earlier line narrows the interval on `own`. "|det| ≤ 0.00001: fails if num < 0, else skipped"
unfoldable pub narrow : Line → Interval → Line → Interval
narrow own (empty n cause) it = empty n cause
narrow own (between left right n) it =
    let det = determinant_of own.direction it.direction in
    let num = determinant_of it.direction (sub_of own.point it.point) in
    when abs_of det ≤ᶠ epsilon then unless_fails (num <ᶠ 0ᶠ) (parallel n) left right n else cut left right n det (num ⊘ det)

-- what a solve of one line finds, with its probes: a point, a failure with its cause, or refusal 8
pub data Found : Type 0 where
  at : Vec2 → ℕ → Found
  fails : ℕ → Cause → Found
  refuses : Found

-- "line point + t · direction"
unfoldable pub point_on : Line → Float → Vec2
point_on own t = add_of own.point (mul_of own.direction t)

-- t from the objective; "at the clamp to a wish, not (t_left ≤ t_right)" is refusal 8
unfoldable pub choose : Objective → Line → Interval → Found
choose o own (empty n cause) = fails n cause
choose (toward wish) own (between left right n) =
    let t = clamp_of (dot_of own.direction (sub_of wish own.point)) left right in
    when left ≤ᶠ right then at (point_on own t) n else refuses
choose (along d) own (between left right n) =
    when 0ᶠ <ᶠ dot_of d own.direction then at (point_on own right) n else at (point_on own left) n

-- `own` is solved against the earlier lines
unfoldable pub one_line : Objective → Float → Line → List Line → Found
one_line o limit own earlier = choose o own (foldl (narrow own) (chord limit own) earlier)
