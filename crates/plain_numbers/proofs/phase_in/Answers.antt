-- `plain_numbers::phase_in` meets its contract. Assumes nothing.
use Rattle.std.specs.Prelude.{◌≢◌}
use native.Mathlib.Omega.{arith}
use borrow.Author.Tests.{ne_eqb}
use Rattle.arithmetic.specs.Binary32.{when◌then◌else◌}
use Rattle.plain_numbers.specs.Kinds.{phase_in}
use Rattle.plain_numbers.proofs.phase_in.Goals as goal

pub returns-in-0 : goal.returns-in-0
unfolding phase_in when◌then◌else◌
returns-in-0 c = simp c.in-0.is

pub returns-in-1 : goal.returns-in-1
unfolding phase_in when◌then◌else◌
returns-in-1 c = simp c.in-1.is

pub returns-in_default : goal.returns-in_default
unfolding phase_in when◌then◌else◌
returns-in_default c =
    let one : c.args.kind ≢ 0 = omega arith in
    let two : c.args.kind ≢ 1 = omega arith in
    simp (ne_eqb _ _ one, ne_eqb _ _ two)
