-- `records::steps::step` meets its contract. Assumes nothing.
use native.Mathlib.Omega.{arith}
use Prim.Native.Nat.{◌+◌, ◌-◌}
use mathlib.Core.Path.{ap, refl}
use Rattle.std.proofs.Common.{Some}
use lib.ListN.{take, drop}
use Rattle.records.specs.Steps.{Put}
use Rattle.records.proofs.StepLaws.{no_room, cut_step, skip_step, skip-fits, overlong-step, whole-step, whole-fits, reply-length}
use Rattle.records.proofs.steps.step.Goals as goal

pub returns-then-output-put-lt-BYTES : goal.returns-then-output-put-lt-BYTES
returns-then-output-put-lt-BYTES c = no_room _ _ _ c.if-output-put-lt-BYTES.true

pub overflow_add-result : goal.overflow_add-result
overflow_add-result c =
    let a = c.args in
    let fits = skip-fits a.input.now a.output.now a.place c.if-output-put-lt-BYTES.false _
    c.in_ok-part.ensures _ (ap Some c.in-Skipped.is) in
    omega (arith, c.requires)

pub overflow_sub-result : goal.overflow_sub-result
overflow_sub-result c =
    let a = c.args in
    (skip-fits a.input.now a.output.now a.place c.if-output-put-lt-BYTES.false _ c.in_ok-part.ensures _
    (ap Some c.in-Skipped.is)).1

pub overflow_add-end : goal.overflow_add-end
overflow_add-end c =
    let a = c.args in
    let fits = whole-fits a.input.now a.output.now a.place c.if-output-put-lt-BYTES.false _
    c.in_ok-part.ensures _ (ap Some c.in-Whole.is) in
    omega (arith, c.requires)

pub slice_bounds-reply-end : goal.slice_bounds-reply-end
slice_bounds-reply-end c =
    let a = c.args in
    let fits = whole-fits a.input.now a.output.now a.place c.if-output-put-lt-BYTES.false _
    c.in_ok-part.ensures _ (ap Some c.in-Whole.is) in
    omega (arith, c.requires)

pub overflow_add-result-in-Whole : goal.overflow_add-result-in-Whole
overflow_add-result-in-Whole c =
    let a = c.args in
    let short = reply-length (take (a.place.used + c.in-Whole.count - a.place.used)
    (drop a.place.used a.input.now)) in
    let long = ap (λ (x : Put). x.count) c.reply-answered.ensures in
    omega (arith, c.requires, c.if-output-put-lt-BYTES.false)

pub returns-in_err-part : goal.returns-in_err-part
returns-in_err-part c =
    let a = c.args in
    rw c.from_residual.ensures
    (cut_step a.input.now a.output.now a.place c.if-output-put-lt-BYTES.false _ c.in_err-part.ensures refl)

pub returns-in-Skipped : goal.returns-in-Skipped
returns-in-Skipped c =
    let a = c.args in
    skip_step a.input.now a.output.now a.place c.if-output-put-lt-BYTES.false _ c.in_ok-part.ensures _
    (ap Some c.in-Skipped.is)

pub returns-in-Overlong : goal.returns-in-Overlong
returns-in-Overlong c =
    let a = c.args in
    overlong-step a.input.now a.output.now a.place c.if-output-put-lt-BYTES.false _
    c.in_ok-part.ensures _ (ap Some c.in-Overlong.is) _ _ c.requires.1
    (rw c.number.ensures at c.write_refusal.ensures)

pub returns-in-Whole : goal.returns-in-Whole
returns-in-Whole c =
    let a = c.args in
    whole-step a.input.now a.output.now a.place c.if-output-put-lt-BYTES.false _
    c.in_ok-part.ensures _ (ap Some c.in-Whole.is) _ _ c.requires.1 c.reply-answered.ensures
