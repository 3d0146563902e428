-- `wall_check::judge_move` meets its contract. Assumes nothing.
use Rattle.std.proofs.lemmas.Result.{err_from_is_err_and}
use Rattle.layouts.proofs.LentInOrder.{layout-fault, layout-total}
use Rattle.wall_check.specs.Crossings.{move_fault}
use Rattle.wall_check.proofs.judge_move.Goals as goal

pub returns-in_err-total : goal.returns-in_err-total
unfolding move_fault
returns-in_err-total c =
    let e = err_from_is_err_and c.from_residual-in_err-total.result c.from_residual-in_err-total.ensures.1 in
    let a = c.args in
    let told = layout-fault a.kinds.now a.counts.now a.vertices.now a.obstacles c.in_err-total.ensures in
    rw (e.1, e.2) (simp (← c.in_ok-judge_vector.ensures, ← c.in_ok-judge_vector-2.ensures, ← told))

pub returns : goal.returns
unfolding move_fault
returns c =
    let a = c.args in
    let told = layout-fault a.kinds.now a.counts.now a.vertices.now a.obstacles c.in_ok-total.ensures in
    let total = layout-total a.kinds.now a.counts.now a.vertices.now a.obstacles c.in_ok-total.ensures in
    simp (
      ← c.in_ok-judge_vector.ensures,
      ← c.in_ok-judge_vector-2.ensures,
      ← told,
      ← total,
      ← c.judge_leftovers.ensures,
    )
