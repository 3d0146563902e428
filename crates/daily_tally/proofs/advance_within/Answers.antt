-- `daily_tally::advance_within` meets its contract. Assumes nothing.
use Rattle.std.proofs.Common.{◌-◌, sym, refl, ap, ◌∙◌, arith}
use Rattle.answer_logs.specs.Logs.{entry_of}
use Rattle.daily_tally.specs.Figures.{largest_of}
use Rattle.daily_tally.specs.Steps.{going, stopped_at, progress, advanced}
use Rattle.daily_tally.proofs.StepLaws.{met-end, met-fault, met-record, progress-none, goes_on, stays-small}
use Rattle.daily_tally.proofs.advance_within.Goals as goal

pub loop-refusal-init : goal.loop-refusal-init
unfolding advanced
loop-refusal-init c = (omega arith, refl, λ h. h)

pub returns-in-Err : goal.returns-in-Err
unfolding stopped_at
returns-in-Err c =
    let l = c.loop-refusal in
    let none = met-fault (c.args.most - l.next) l.next c.args.part.now l.at
    (rw (c.in-Err.is, c.saturating_sub.ensures) at c.whole_within.ensures) in (
      rw c.refused.ensures (sym (l.invariant.1 ∙ ap (progress l.at l.next l.sum) none)),
      l.invariant.2 (rw none (omega arith)),
    )

pub returns-in-Ok-None : goal.returns-in-Ok-None
unfolding going largest_of
returns-in-Ok-None c =
    let l = c.loop-refusal in
    let none = met-end (c.args.most - l.next) l.next c.args.part.now l.at
    (rw (c.in-Ok-None.is, c.in-Ok-None.field-0-is, c.saturating_sub.ensures) at c.whole_within.ensures) in (
      sym (l.invariant.1 ∙ ap (progress l.at l.next l.sum) none ∙ progress-none l.at l.next l.sum),
      l.invariant.2 (rw none (omega arith)),
    )

pub add_reply-sum-requires : goal.add_reply-sum-requires
add_reply-sum-requires c =
    let l = c.loop-refusal in
    (met-record (c.args.most - l.next) l.next c.args.part.now l.at {e = entry_of c.in-Ok-Some.reply}
    (rw (c.in-Ok-Some.is, c.in-Ok-Some.field-0-is, c.saturating_sub.ensures) at c.whole_within.ensures)).fits

pub overflow_add-next : goal.overflow_add-next
overflow_add-next c =
    let l = c.loop-refusal in
    let m = met-record (c.args.most - l.next) l.next c.args.part.now l.at {e = entry_of c.in-Ok-Some.reply}
    (rw (c.in-Ok-Some.is, c.in-Ok-Some.field-0-is, c.saturating_sub.ensures) at c.whole_within.ensures) in
    omega (arith, m.allowed)

pub loop-refusal-smaller : goal.loop-refusal-smaller
loop-refusal-smaller c =
    let l = c.loop-refusal in
    let m = met-record (c.args.most - l.next) l.next c.args.part.now l.at {e = entry_of c.in-Ok-Some.reply}
    (rw (c.in-Ok-Some.is, c.in-Ok-Some.field-0-is, c.saturating_sub.ensures) at c.whole_within.ensures) in
    omega (arith, m.onward, m.inside)

pub loop-refusal-preserved : goal.loop-refusal-preserved
loop-refusal-preserved c =
    let l = c.loop-refusal in
    let m = met-record (c.args.most - l.next) l.next c.args.part.now l.at {e = entry_of c.in-Ok-Some.reply}
    (rw (c.in-Ok-Some.is, c.in-Ok-Some.field-0-is, c.saturating_sub.ensures) at c.whole_within.ensures) in
    let added = c.add_reply-sum.ensures in (
      m.inside,
      l.invariant.1 ∙ goes_on c.args.most l.next c.args.part.now l.at m l.sum added.0,
      λ h. l.invariant.2 (stays-small c.args.most l.next c.args.part.now l.at m added.1 h),
    )
