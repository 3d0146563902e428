-- `index_building::build_index` meets its contract. Assumes nothing.
use Rattle.std.proofs.Common.{rules}
use native.Mathlib.Omega.{arith}
use Rattle.index_building.specs.Builds.{built_over}
use Rattle.index_building.proofs.WholeLaws.{start_fits, ends_there, build-bad, build-left}
use Rattle.index_building.proofs.build_index.Goals as goal

pub walk_part-requires : goal.walk_part-requires
walk_part-requires c = start_fits _ (omega arith)

pub returns-in_err-used : goal.returns-in_err-used
unfolding built_over
returns-in_err-used c = rw (← build-bad _ _ _ _ c.in_err-used.ensures) (search rules)

pub returns-then-used-log : goal.returns-then-used-log
unfolding built_over
returns-then-used-log c = build-left _ _ _ _ _ c.in_ok-used.ensures c.if-used-log.true

pub store_whole-requires : goal.store_whole-requires
store_whole-requires c = record {
  most_le_greatest = omega arith;
  log_value = ends_there _ _ _ c.in_ok-used.ensures c.if-used-log.false;
}

pub returns : goal.returns
unfolding built_over
returns c = c.store_whole.ensures
