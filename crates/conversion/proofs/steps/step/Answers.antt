-- `conversion::steps::step` meets its contract. Assumes nothing.
use Rattle.std.proofs.Common.{refl, ap, arith, Some}
use Rattle.conversion.specs.Streams.{next_place}
use Rattle.conversion.proofs.StepLaws.{cut_step, skip_step, overlong-step, whole-fits, refused-step}
use Rattle.conversion.proofs.StepLaws.{moved-fits, moved-step}
use Rattle.conversion.proofs.steps.step.Goals as goal

pub returns-in_default : goal.returns-in_default
returns-in_default c =
    let a = c.args in
    cut_step a.to a.input.now a.output.now a.at _ c.in_default.ensures refl

pub returns-in-Skipped : goal.returns-in-Skipped
returns-in-Skipped c =
    let a = c.args in
    skip_step a.to a.input.now a.output.now a.at _ c.in-Some.ensures _ (ap Some c.in-Skipped.is)

pub returns-in-Overlong : goal.returns-in-Overlong
returns-in-Overlong c =
    let a = c.args in
    overlong-step a.to a.input.now a.output.now a.at _ c.in-Some.ensures _ (ap Some c.in-Overlong.is)

pub overflow_add-end : goal.overflow_add-end
overflow_add-end c =
    let a = c.args in
    omega (
      arith,
      c.requires.0,
      (whole-fits a.to a.input.now a.output.now a.at _ c.in-Some.ensures _ (ap Some c.in-Whole.is)).1,
    )

pub slice_bounds-move_record-end : goal.slice_bounds-move_record-end
slice_bounds-move_record-end c =
    let a = c.args in
    omega (
      arith,
      c.requires.0,
      (whole-fits a.to a.input.now a.output.now a.at _ c.in-Some.ensures _ (ap Some c.in-Whole.is)).1,
    )

pub overflow_add-result : goal.overflow_add-result
overflow_add-result c =
    let a = c.args in
    omega (
      arith,
      moved-fits a.to a.input.now a.output.now a.at _ c.in-Some.ensures _ (ap Some c.in-Whole.is)
          c.requires.2 c.requires.1 _ _ _ c.in-Ok.ensures refl,
    )

pub returns-in-Err : goal.returns-in-Err
returns-in-Err c =
    let a = c.args in
    refused-step a.to a.input.now a.output.now a.at _ c.in-Some.ensures _ (ap Some c.in-Whole.is)
    c.requires.2 c.requires.1 _ _ _ c.in-Err.ensures _ refl

pub returns-in-Ok : goal.returns-in-Ok
unfolding next_place
returns-in-Ok c =
    let a = c.args in
    moved-step a.to a.input.now a.output.now a.at _ c.in-Some.ensures _ (ap Some c.in-Whole.is)
    c.requires.2 c.requires.1 _ _ _ c.in-Ok.ensures refl _ refl
