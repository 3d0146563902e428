-- `index_building::build_part` meets its contract. Assumes nothing.
use Rattle.std.proofs.Common.{rules}
use native.Mathlib.Omega.{arith}
use mathlib.Core.Path.{sym}
use Rattle.log_walks.specs.Parts.{wholes_of}
use Rattle.index_building.proofs.BuildLaws.{part-whole, part-over, part-refused, part-short, part-done}
use Rattle.index_building.proofs.build_part.Goals as goal

pub returns-in_err-judge_extent : goal.returns-in_err-judge_extent
returns-in_err-judge_extent c = rw (← part-over _ _ _ _ c.in_err-judge_extent.ensures) (search rules)

pub returns-in_err-used : goal.returns-in_err-used
returns-in_err-used c =
    rw (← part-refused _ _ _ c.in_ok-judge_extent.ensures _ c.in_err-used.ensures) (search rules)

pub returns-then-buffer-written : goal.returns-then-buffer-written
returns-then-buffer-written c =
    part-short _ _ _ c.in_ok-judge_extent.ensures _ c.in_ok-used.after c.in_ok-used.ensures
    (omega (arith, c.if-buffer-written.true, c.entry_bytes-written.ensures))

pub fill-requires : goal.fill-requires
fill-requires c =
    let a = c.args in
    let w = part-whole a.before (wholes_of a.part.now) _ c.in_ok-used.after c.in_ok-used.ensures in
    record {
      before_value = sym c.in_ok-judge_extent.ensures;
      part_value = w.0;
      part_in_bounds = omega (arith, w.1, c.if-buffer-written.false, c.entry_bytes-written.ensures);
    }

pub returns : goal.returns
returns c =
    part-done _ _ _ c.in_ok-judge_extent.ensures _ c.in_ok-used.after c.in_ok-used.ensures _
    c.entry_bytes-written.ensures c.if-buffer-written.false _ c.fill.ensures
