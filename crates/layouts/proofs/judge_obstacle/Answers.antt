-- `layouts::judge_obstacle` meets its contract. Assumes nothing.
use Prim.Native.Nat.{◌*◌}
use mathlib.Core.Path.{sym, ap, ◌∙◌}
use native.Mathlib.Omega.{arith}
use lib.ListN.{drop, length-drop}
use Rattle.std.proofs.lemmas.List.{take_rest}
use Rattle.obstacles.specs.ObstacleFaults.{outline_fault}
use Rattle.std.proofs.lemmas.Result.{err_from_is_err_and}
use Rattle.layouts.specs.Layouts.{own_fault}
use Rattle.layouts.proofs.LentInOrder.{front_of}
use Rattle.layouts.proofs.LentHolds.{kind-lent}
use Rattle.layouts.proofs.judge_obstacle.Goals as goal

pub returns-in_err-kind-clause-fault : goal.returns-in_err-kind-clause-fault
unfolding own_fault
returns-in_err-kind-clause-fault c =
    let e = err_from_is_err_and c.from_residual.result c.from_residual.ensures.1 in
    rw (e.1, e.2) (simp (← c.in_err-kind.ensures.fault))

pub returns-in_err-count-clause-fault : goal.returns-in_err-count-clause-fault
unfolding own_fault
returns-in_err-count-clause-fault c =
    let e = err_from_is_err_and c.from_residual-in_err-count.result c.from_residual-in_err-count.ensures.1 in
    rw (e.1, e.2) (simp (← c.in_ok-kind.ensures.fault, front_of, ← c.in_ok-kind.ensures.kind, ← c.in_err-count.ensures.fault))

pub bounds-kinds-i : goal.bounds-kinds-i
bounds-kinds-i c =
    let a = c.args in
    omega (arith, kind-lent (drop a.i a.kinds.now) (sym c.in_ok-kind.ensures.fault), length-drop a.i a.kinds.now)

pub returns-in_err-judge_outline-clause-fault : goal.returns-in_err-judge_outline-clause-fault
unfolding own_fault
returns-in_err-judge_outline-clause-fault c =
    let e = err_from_is_err_and c.from_residual-in_err-judge_outline.result c.from_residual-in_err-judge_outline.ensures.1 in
    rw (e.1, e.2) (simp (
      ← c.in_ok-kind.ensures.fault,
      front_of,
      ← c.in_ok-kind.ensures.kind,
      ← c.in_ok-count.ensures.fault,
      ← c.in_ok-count.ensures.count,
    ) (c.in_err-judge_outline.ensures ∙ rw c.in_ok-kind.ensures.kind
    (ap (outline_fault _) (take_rest c.args.vertices.now (2 * c.args.total)))))

pub returns-clause-fault : goal.returns-clause-fault
unfolding own_fault
returns-clause-fault c = simp (
  ← c.in_ok-kind.ensures.fault,
  front_of,
  ← c.in_ok-kind.ensures.kind,
  ← c.in_ok-count.ensures.fault,
  ← c.in_ok-count.ensures.count,
) (c.in_ok-judge_outline.ensures ∙ rw c.in_ok-kind.ensures.kind
    (ap (outline_fault _) (take_rest c.args.vertices.now (2 * c.args.total))))
