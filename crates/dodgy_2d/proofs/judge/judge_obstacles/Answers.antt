use Rattle.dodgy_2d.proofs.HeadsInOrder.{obstacle-on, obstacle-stop, obstacles-done, own_room}
use mathlib.Core.Path.{◌≡◌, sym, ◌∙◌}
use Rattle.std.proofs.lemmas.Result.{err_from_is_err_and}
use lib.ListN.{get_or}
use borrow.Author.Rules.{rules}
use native.Mathlib.Omega.{arith}
use Rattle.dodgy_2d.proofs.judge.judge_obstacles.Goals as goal

pub returns-in_err-judge_obstacle : goal.returns-in_err-judge_obstacle
returns-in_err-judge_obstacle c =
    let e = err_from_is_err_and c.from_residual.result c.from_residual.ensures.1 in
    let a = c.args in
    let l = c.loop-i in
    let wide : c.from.result ≡ get_or a.counts l.i 0 = search rules in
    let step = rw (c.in_err-judge_obstacle.was, wide) at c.judge_obstacle.ensures in
    rw (e.1, e.2) (sym (l.invariant.1 ∙ obstacle-stop a.kinds a.counts a.n l.i (omega arith)
    (omega arith) l.total a.vertices.now _ (omega arith) step))

pub loop-i-preserved : goal.loop-i-preserved
loop-i-preserved c =
    let a = c.args in
    let l = c.loop-i in
    let wide : c.from.result ≡ get_or a.counts l.i 0 = search rules in
    let step = rw (c.in_ok-judge_obstacle.was, wide) at c.judge_obstacle.ensures in (
      rw wide
          (own_room a.kinds a.counts a.n l.i (omega arith) (omega arith) l.total a.vertices.now step).1,
      rw wide (l.invariant.1 ∙ obstacle-on a.kinds a.counts a.n l.i (omega arith)
          (omega arith) l.total a.vertices.now (omega arith) step),
    )

pub returns : goal.returns
returns c =
    let a = c.args in
    let l = c.loop-i in
    sym (l.invariant.1 ∙ obstacles-done a.kinds a.counts a.n l.i (omega arith) (omega arith) l.total
    a.vertices.now (omega arith))
