-- `index_building::builds::walk_part` meets its contract. Assumes nothing.
use Rattle.std.proofs.Common.{rules}
use native.Mathlib.Omega.{arith}
use mathlib.Core.Path.{refl, sym, ◌∙◌}
use Rattle.log_walks.proofs.WalkLaws.{passed-told}
use Rattle.index_building.proofs.BuildLaws.{none-grown, step, step-on, step_fits, step-grown, walks-on, walked-bad, walked_through}
use Rattle.index_building.proofs.builds.walk_part.Goals as goal

pub loop-behind-init : goal.loop-behind-init
loop-behind-init c = (omega arith, none-grown _, refl)

pub returns-in_err-behind : goal.returns-in_err-behind
returns-in_err-behind c =
    let l = c.loop-behind in
    rw (
      l.invariant.2,
      ← walked-bad _ _ l.extent _ (passed-told c.whole_at.result c.in_err-behind.ensures c.whole_at.ensures),
    ) (search rules)

pub overflow_sub-behind : goal.overflow_sub-behind
overflow_sub-behind c =
    omega (
      arith,
      step-on _ _ c.requires c.loop-behind.invariant.1 _ _
          (passed-told c.whole_at.result (rw c.in-Some.is at c.in_ok-behind.ensures) c.whole_at.ensures),
    )

pub extended-extent-requires : goal.extended-extent-requires
extended-extent-requires c =
    let f = step_fits _ _ c.requires c.loop-behind.invariant.1 _ _
    (passed-told c.whole_at.result (rw c.in-Some.is at c.in_ok-behind.ensures) c.whole_at.ensures) in
    record { size_bound = f.0; records_bound = f.1; more_bound = f.2 }

pub loop-behind-smaller : goal.loop-behind-smaller
loop-behind-smaller c =
    let e = passed-told c.whole_at.result (rw c.in-Some.is at c.in_ok-behind.ensures) c.whole_at.ensures in
    omega (
      arith,
      step-on _ _ c.requires c.loop-behind.invariant.1 _ _ e,
      (step _ _ c.requires c.loop-behind.invariant.1 _ _ e).within,
    )

pub loop-behind-preserved : goal.loop-behind-preserved
loop-behind-preserved c =
    let e = passed-told c.whole_at.result (rw c.in-Some.is at c.in_ok-behind.ensures) c.whole_at.ensures in
    let fits = c.requires in
    let grown = c.loop-behind.invariant.1 in (
      (step _ _ fits grown _ _ e).within,
      step-grown _ _ fits grown _ _ e c.extended-extent.ensures,
      c.loop-behind.invariant.2 ∙ walks-on _ _ fits grown _ _ e c.extended-extent.ensures,
    )

pub returns : goal.returns
returns c =
    let l = c.loop-behind in
    walked_through _ _ _ (passed-told c.whole_at.result (rw c.in_default.is at c.in_ok-behind.ensures) c.whole_at.ensures) ∙ sym l.invariant.2
