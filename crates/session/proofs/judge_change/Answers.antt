use Rattle.std.proofs.Common.{◌≡◌, ◌&&◌, ltb, leb, get_or, sym, ◌∙◌, arith}
use Rattle.std.proofs.lemmas.Result.{err_from_is_err_and}
use Rattle.admission.proofs.FaultLaws.{must-fine}
use Rattle.session.specs.Changes.{change_fault}
use Rattle.session.proofs.ChangeWork.{ascending-next, ascending-done, tested-above, tested-below, tested-true}
use Rattle.session.proofs.judge_change.Goals as goal
use Rattle.session.proofs.judge_change.Goals.{then-low-next, else-low-next}

pub returns-in_err-unless-2 : goal.returns-in_err-unless-2
unfolding change_fault
returns-in_err-unless-2 c =
    let l = c.loop-next in
    let w = c.args.withdrawn.now in
    let n = c.args.count in
    let i = get_or w l.next-index 0 in
    let p = err_from_is_err_and c.from_residual-in_err-unless-2.result c.from_residual-in_err-unless-2.ensures.1 in
    let tested : c.if-low-next.unless ≡ (leb l.low i && ltb i n) = elim c.if-low-next.branch [
      | then-low-next h ↦ tested-above l.low i n h.if-low-next.true h.unless-is
      | else-low-next h ↦ tested-below l.low i n h.if-low-next.false h.unless-is
    ] in
    rw (
      p.1,
      p.2,
      ← c.in_ok-unless.ensures,
      l.invariant.1,
      ascending-next n l.low w l.next-index (omega arith) tested,
      ← c.in_err-unless-2.ensures,
    )

pub loop-next-preserved : goal.loop-next-preserved
loop-next-preserved c =
    let l = c.loop-next in
    let w = c.args.withdrawn.now in
    let n = c.args.count in
    let i = get_or w l.next-index 0 in
    let tested : c.if-low-next.unless ≡ (leb l.low i && ltb i n) = elim c.if-low-next.branch [
      | then-low-next h ↦ tested-above l.low i n h.if-low-next.true h.unless-is
      | else-low-next h ↦ tested-below l.low i n h.if-low-next.false h.unless-is
    ] in
    let below = tested-true l.low i n (sym (must-fine c.if-low-next.unless 15 (sym c.in_ok-unless-2.ensures)) ∙ tested) in
    (omega arith, l.invariant.1 ∙ rw (ascending-next n l.low w l.next-index (omega arith) tested, ← c.in_ok-unless-2.ensures))

pub returns : goal.returns
unfolding change_fault
returns c =
    let l = c.loop-next in
    rw (← c.in_ok-unless.ensures, l.invariant.1, ascending-done c.args.count l.low c.args.withdrawn.now l.next-index (omega arith))
