-- `scene_writer::judge_parts` meets its contract. Assumes nothing.
use mathlib.Core.Path.{sym, ◌∙◌}
use Rattle.layouts.proofs.LentInOrder.{layout-fault, layout-total}
use Rattle.scene_writer.specs.Writing.{parts_fault}
use Rattle.scene_writer.proofs.Judging.{first-told, second-told, judged-exit}
use Rattle.scene_writer.proofs.judge_parts.Goals as goal

pub returns-in_err-judge_cart : goal.returns-in_err-judge_cart
unfolding parts_fault
returns-in_err-judge_cart c = judged-exit _ _ c.from_residual.ensures.1 ∙ sym (first-told _ _ _ c.in_err-judge_cart.ensures)

pub returns-in_err-total : goal.returns-in_err-total
unfolding parts_fault
returns-in_err-total c =
    let a = c.args.parts in
    judged-exit _ _ c.from_residual-in_err-total.ensures.1
    ∙ sym (second-told _ _ c.in_ok-judge_cart.ensures
    ∙ first-told _ _ _ (layout-fault a.kinds.now a.counts.now a.vertices.now a.obstacles c.in_err-total.ensures))

pub returns : goal.returns
unfolding parts_fault
returns c =
    let a = c.args.parts in
    let told = layout-fault a.kinds.now a.counts.now a.vertices.now a.obstacles c.in_ok-total.ensures in
    let total = layout-total a.kinds.now a.counts.now a.vertices.now a.obstacles c.in_ok-total.ensures in
    rw total at c.judge_rest.ensures ∙ sym (second-told _ _ c.in_ok-judge_cart.ensures ∙ second-told _ _ told)
