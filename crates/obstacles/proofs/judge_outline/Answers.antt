-- `obstacles::judge_outline` meets its contract. Assumes nothing.
use Prim.Native.Nat.{◌*◌}
use mathlib.Core.Path.{sym}
use native.Mathlib.Omega.{arith}
use lib.Seq.{length-take-le}
use Rattle.obstacles.specs.Doubled.{none_before}
use Rattle.obstacles.proofs.ObstacleFaults.{vertices-lent}
use Rattle.obstacles.proofs.judge_outline.Goals as goal

pub overflow_mul-head : goal.overflow_mul-head
overflow_mul-head c =
    let a = c.args in
    omega (arith, vertices-lent none_before a.head.count a.vertices.now (sym c.in_ok-judge_vertices.ensures))

pub slice_bounds-may_close-end : goal.slice_bounds-may_close-end
slice_bounds-may_close-end c =
    let a = c.args in
    sym (length-take-le (2 * a.head.count) a.vertices.now
    (vertices-lent none_before a.head.count a.vertices.now (sym c.in_ok-judge_vertices.ensures)))
