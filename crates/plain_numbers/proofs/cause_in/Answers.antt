-- `plain_numbers::cause_in` meets its contract. Assumes nothing.
use Rattle.std.specs.Prelude.{◌≢◌}
use native.Mathlib.Omega.{arith}
use borrow.Author.Tests.{ne_eqb}
use Rattle.arithmetic.specs.Binary32.{when◌then◌else◌}
use Rattle.plain_numbers.specs.Kinds.{cause_in}
use Rattle.plain_numbers.proofs.cause_in.Goals as goal

pub returns-in-1 : goal.returns-in-1
unfolding cause_in when◌then◌else◌
returns-in-1 c = simp c.in-1.is

pub returns-in-2 : goal.returns-in-2
unfolding cause_in when◌then◌else◌
returns-in-2 c = simp c.in-2.is

pub returns-in_default : goal.returns-in_default
unfolding cause_in when◌then◌else◌
returns-in_default c =
    let one : c.args.kind ≢ 1 = omega arith in
    let two : c.args.kind ≢ 2 = omega arith in
    simp (ne_eqb _ _ one, ne_eqb _ _ two)
