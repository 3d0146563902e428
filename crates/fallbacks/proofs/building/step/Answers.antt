-- `fallbacks::building::step` meets its contract. Assumes nothing.
use Rattle.std.proofs.Common.{arith}
use Rattle.fallbacks.specs.Turns.{worked}
use Rattle.fallbacks.proofs.TurnLaws.{refused-step, entries-there, whole-step, few-wait}
use Rattle.fallbacks.proofs.building.step.Goals as goal

pub slice_bounds-write-end : goal.slice_bounds-write-end
slice_bounds-write-end g c =
    let a = c.args in
    let there = entries-there a.input.now a.there a.entries.now a.before c.requires.1 _ _
    (rw c.in-Ok.is at c.build_part.ensures) in
    omega (arith, there)

pub returns-in-Err-clause-steps : goal.returns-in-Err-clause-steps
returns-in-Err-clause-steps g c =
    let a = c.args in
    worked (refused-step a.input.now a.there a.entries.now a.before c.requires.1 _ _
    (rw c.in-Err.is at c.build_part.ensures))

pub returns-clause-steps : goal.returns-clause-steps
returns-clause-steps g c =
    let a = c.args in
    let e = rw c.in-Ok.is at c.build_part.ensures in
    worked (whole-step a.input.now a.there a.entries.now a.before c.requires.1 _ _ e _ _ c.keep.ensures)

pub returns-clause-kept_bound : goal.returns-clause-kept_bound
returns-clause-kept_bound g c =
    let a = c.args in
    let e = rw c.in-Ok.is at c.build_part.ensures in
    few-wait a.input.now a.there a.entries.now a.before c.requires.1 _ _ e _ _ c.keep.ensures
