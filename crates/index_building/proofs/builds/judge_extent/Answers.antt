-- `index_building::builds::judge_extent` meets its contract. Assumes nothing.
use Rattle.std.proofs.Common.{rules, arith}
use Rattle.index_building.specs.Builds.{extent_fault}
use Rattle.index_building.proofs.BuildLaws.{room-test}
use Rattle.index_building.proofs.builds.judge_extent.Goals as goal

pub returns-in_err-unless : goal.returns-in_err-unless
unfolding extent_fault
returns-in_err-unless c =
    let a = c.args in
    rw (← room-test a.extent.bytes a.size (omega arith), ← c.in_err-unless.ensures) (search rules)

pub returns-in_err-unless-2 : goal.returns-in_err-unless-2
unfolding extent_fault
returns-in_err-unless-2 c =
    let a = c.args in
    rw (
      ← room-test a.extent.bytes a.size (omega arith),
      ← c.in_ok-unless.ensures,
      ← room-test a.extent.records a.size (omega arith),
      ← c.in_err-unless-2.ensures,
    ) (search rules)

pub returns : goal.returns
unfolding extent_fault
returns c =
    let a = c.args in
    rw (
      ← room-test a.extent.bytes a.size (omega arith),
      ← c.in_ok-unless.ensures,
      ← room-test a.extent.records a.size (omega arith),
      ← c.in_ok-unless-2.ensures,
      ← room-test a.extent.fallbacks a.size (omega arith),
    )
    c.unless-3.ensures
