-- `scene_writer::judge::judge_line` meets its contract. Assumes nothing.
use Prim.Native.Nat.{◌+◌, ◌*◌}
use mathlib.Core.Path.{◌∙◌}
use Rattle.arithmetic.specs.Binary32.{finite}
use Rattle.admission.specs.Faults.{within}
use Rattle.lines.specs.LineFaults.{line_reach}
use Rattle.scene_writer.proofs.Judging.{judged-exit, lent-missing, lent-judged, told-at_0, told-at_1, told-at_2, told-at_3, told-last}
use Rattle.scene_writer.proofs.judge.judge_line.Goals as goal

pub returns-in_err-point_x : goal.returns-in_err-point_x
returns-in_err-point_x c =
    let a = c.args in
    judged-exit _ _ c.from_residual.ensures.1
    ∙ told-at_0 a.lines.now (4 * a.i) _ (lent-missing (within line_reach) a.lines.now (4 * a.i) _ c.in_err-point_x.ensures.missing)

pub returns-in_err-unless : goal.returns-in_err-unless
returns-in_err-unless c =
    let a = c.args in
    judged-exit _ _ c.from_residual-in_err-unless.ensures.1
    ∙ told-at_0 a.lines.now (4 * a.i) _ (lent-judged (within line_reach) a.lines.now (4 * a.i) _ _ _ c.in_ok-point_x.ensures.there c.is_within.ensures c.in_err-unless.ensures)

pub returns-in_err-point_y : goal.returns-in_err-point_y
returns-in_err-point_y c =
    let a = c.args in
    judged-exit _ _ c.from_residual-in_err-point_y.ensures.1
    ∙ told-at_1 a.lines.now (4 * a.i)
    (lent-judged (within line_reach) a.lines.now (4 * a.i) _ _ _ c.in_ok-point_x.ensures.there c.is_within.ensures c.in_ok-unless.ensures) _
    (lent-missing (within line_reach) a.lines.now (4 * a.i + 1) _ c.in_err-point_y.ensures.missing)

pub returns-in_err-unless-2 : goal.returns-in_err-unless-2
returns-in_err-unless-2 c =
    let a = c.args in
    judged-exit _ _ c.from_residual-in_err-unless-2.ensures.1
    ∙ told-at_1 a.lines.now (4 * a.i)
    (lent-judged (within line_reach) a.lines.now (4 * a.i) _ _ _ c.in_ok-point_x.ensures.there c.is_within.ensures c.in_ok-unless.ensures) _
    (lent-judged (within line_reach) a.lines.now (4 * a.i + 1) _ _ _ c.in_ok-point_y.ensures.there c.is_within-2.ensures c.in_err-unless-2.ensures)

pub returns-in_err-x : goal.returns-in_err-x
returns-in_err-x c =
    let a = c.args in
    judged-exit _ _ c.from_residual-in_err-x.ensures.1
    ∙ told-at_2 a.lines.now (4 * a.i)
    (lent-judged (within line_reach) a.lines.now (4 * a.i) _ _ _ c.in_ok-point_x.ensures.there c.is_within.ensures c.in_ok-unless.ensures)
    (lent-judged (within line_reach) a.lines.now (4 * a.i + 1) _ _ _ c.in_ok-point_y.ensures.there c.is_within-2.ensures c.in_ok-unless-2.ensures) _
    (lent-missing finite a.lines.now (4 * a.i + 2) _ c.in_err-x.ensures.missing)

pub returns-in_err-unless-3 : goal.returns-in_err-unless-3
returns-in_err-unless-3 c =
    let a = c.args in
    judged-exit _ _ c.from_residual-in_err-unless-3.ensures.1
    ∙ told-at_2 a.lines.now (4 * a.i)
    (lent-judged (within line_reach) a.lines.now (4 * a.i) _ _ _ c.in_ok-point_x.ensures.there c.is_within.ensures c.in_ok-unless.ensures)
    (lent-judged (within line_reach) a.lines.now (4 * a.i + 1) _ _ _ c.in_ok-point_y.ensures.there c.is_within-2.ensures c.in_ok-unless-2.ensures) _
    (lent-judged finite a.lines.now (4 * a.i + 2) _ _ _ c.in_ok-x.ensures.there c.is_finite.ensures c.in_err-unless-3.ensures)

pub returns-in_err-y : goal.returns-in_err-y
returns-in_err-y c =
    let a = c.args in
    judged-exit _ _ c.from_residual-in_err-y.ensures.1
    ∙ told-at_3 a.lines.now (4 * a.i)
    (lent-judged (within line_reach) a.lines.now (4 * a.i) _ _ _ c.in_ok-point_x.ensures.there c.is_within.ensures c.in_ok-unless.ensures)
    (lent-judged (within line_reach) a.lines.now (4 * a.i + 1) _ _ _ c.in_ok-point_y.ensures.there c.is_within-2.ensures c.in_ok-unless-2.ensures)
    (lent-judged finite a.lines.now (4 * a.i + 2) _ _ _ c.in_ok-x.ensures.there c.is_finite.ensures c.in_ok-unless-3.ensures) _
    (lent-missing finite a.lines.now (4 * a.i + 3) _ c.in_err-y.ensures.missing)

pub returns-in_err-unless-4 : goal.returns-in_err-unless-4
returns-in_err-unless-4 c =
    let a = c.args in
    judged-exit _ _ c.from_residual-in_err-unless-4.ensures.1
    ∙ told-at_3 a.lines.now (4 * a.i)
    (lent-judged (within line_reach) a.lines.now (4 * a.i) _ _ _ c.in_ok-point_x.ensures.there c.is_within.ensures c.in_ok-unless.ensures)
    (lent-judged (within line_reach) a.lines.now (4 * a.i + 1) _ _ _ c.in_ok-point_y.ensures.there c.is_within-2.ensures c.in_ok-unless-2.ensures)
    (lent-judged finite a.lines.now (4 * a.i + 2) _ _ _ c.in_ok-x.ensures.there c.is_finite.ensures c.in_ok-unless-3.ensures) _
    (lent-judged finite a.lines.now (4 * a.i + 3) _ _ _ c.in_ok-y.ensures.there c.is_finite-2.ensures c.in_err-unless-4.ensures)

pub returns : goal.returns
returns c =
    let a = c.args in
    told-last a.lines.now (4 * a.i)
    (lent-judged (within line_reach) a.lines.now (4 * a.i) _ _ _ c.in_ok-point_x.ensures.there c.is_within.ensures c.in_ok-unless.ensures)
    (lent-judged (within line_reach) a.lines.now (4 * a.i + 1) _ _ _ c.in_ok-point_y.ensures.there c.is_within-2.ensures c.in_ok-unless-2.ensures)
    (lent-judged finite a.lines.now (4 * a.i + 2) _ _ _ c.in_ok-x.ensures.there c.is_finite.ensures c.in_ok-unless-3.ensures)
    (lent-judged finite a.lines.now (4 * a.i + 3) _ _ _ c.in_ok-y.ensures.there c.is_finite-2.ensures c.in_ok-unless-4.ensures)
    _ _ _ _ _ c.in_ok-x.ensures.there.1 c.in_ok-y.ensures.there.1 (rw c.new.ensures at c.length_squared-squared.ensures)
    c.is_inside.ensures c.unless-5.ensures
