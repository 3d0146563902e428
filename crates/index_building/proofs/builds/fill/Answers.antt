-- `index_building::builds::fill` meets its contract. Assumes nothing.
use native.Mathlib.Omega.{arith}
use mathlib.Core.Path.{refl}
use Rattle.log_walks.proofs.WalkLaws.{passed-told}
use Rattle.index_building.proofs.BuildLaws.{none-grown, step, step-on, step_fits, passed-there, none-there, entry-room, fills-on, fills-through, fills-length, fills-no-bad}
use Rattle.index_building.proofs.builds.fill.Goals as goal

pub loop-behind-init : goal.loop-behind-init
loop-behind-init c = record {
  within = omega arith;
  grown = none-grown _;
  whole = c.requires.part_value;
  room-left = c.requires.part_in_bounds;
  stands = refl;
}

pub overflow_sub-behind : goal.overflow_sub-behind
overflow_sub-behind c =
    let e = passed-there _ (passed-told c.whole_at.result c.pass.ensures c.whole_at.ensures) c.unwrap_or.ensures c.in-Some.is in
    omega (arith, step-on _ _ c.requires.before_value c.loop-behind.invariant.grown _ _ e)

pub extended-next-requires : goal.extended-next-requires
extended-next-requires c =
    let e = passed-there _ (passed-told c.whole_at.result c.pass.ensures c.whole_at.ensures) c.unwrap_or.ensures c.in-Some.is in
    let f = step_fits _ _ c.requires.before_value c.loop-behind.invariant.grown _ _ e in
    record { size_bound = f.0; records_bound = f.1; more_bound = f.2 }

pub put_new_entry-to-requires : goal.put_new_entry-to-requires
put_new_entry-to-requires c =
    let e = passed-there _ (passed-told c.whole_at.result c.pass.ensures c.whole_at.ensures) c.unwrap_or.ensures c.in-Some.is in
    entry-room c.requires.before_value c.loop-behind.invariant _ _ e c.extended-next.ensures

pub loop-behind-smaller : goal.loop-behind-smaller
loop-behind-smaller c =
    let e = passed-there _ (passed-told c.whole_at.result c.pass.ensures c.whole_at.ensures) c.unwrap_or.ensures c.in-Some.is in
    let fits = c.requires.before_value in
    omega (arith, step-on _ _ fits c.loop-behind.invariant.grown _ _ e, (step _ _ fits c.loop-behind.invariant.grown _ _ e).within)

pub loop-behind-preserved : goal.loop-behind-preserved
loop-behind-preserved c =
    let e = passed-there _ (passed-told c.whole_at.result c.pass.ensures c.whole_at.ensures) c.unwrap_or.ensures c.in-Some.is in
    let put = c.put_new_entry-to.ensures in
    fills-on c.requires.before_value c.loop-behind.invariant _ _ e c.extended-next.ensures put.0 put.1

pub shape_of-buffer : goal.shape_of-buffer
shape_of-buffer c =
    let bad = fills-no-bad c.requires.before_value c.loop-behind.invariant in
    fills-length c.requires.before_value c.loop-behind.invariant
    (none-there _ (passed-told c.whole_at.result c.pass.ensures c.whole_at.ensures) c.unwrap_or.ensures c.in_default.is bad)

pub returns : goal.returns
returns c =
    let bad = fills-no-bad c.requires.before_value c.loop-behind.invariant in
    fills-through c.requires.before_value c.loop-behind.invariant
    (none-there _ (passed-told c.whole_at.result c.pass.ensures c.whole_at.ensures) c.unwrap_or.ensures c.in_default.is bad)
