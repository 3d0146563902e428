use Rattle.std.proofs.Common.{◌+◌, drop, sym, ap, ◌∙◌, arith}
use Rattle.session.specs.Withdrawals.{source_in}
use Rattle.session.proofs.WithdrawalWork.{source-below, source-above, source-on, source-none}
use Rattle.session.proofs.source_in.Goals as goal
use Rattle.session.proofs.source_in.Goals.{then-from-index, else-from-index}

pub loop-index-preserved : goal.loop-index-preserved
loop-index-preserved c =
    let l = c.loop-index in
    let w = c.args.withdrawn.now in
    let on = l.invariant.1 ∙ source-on w l.index-index l.from (omega arith) in
    elim c.if-from-index.branch [
      | then-from-index h ↦ (omega arith, on ∙ ap (source_in (drop (l.index-index + 1) w)) (source-above _ _ h.if-from-index.true ∙ sym h.from-is))
      | else-from-index h ↦ (omega arith, on ∙ ap (source_in (drop (l.index-index + 1) w)) (source-below _ _ h.if-from-index.false ∙ sym h.from-is))
    ]

pub returns : goal.returns
returns c =
    let l = c.loop-index in
    (sym (l.invariant.1 ∙ source-none c.args.withdrawn.now l.index-index l.from (omega arith)), omega arith)
