-- `arithmetic::root::row` meets its contract: each row passes its test, which is computed, and there is no other row.
-- Assumes nothing.
use native.Mathlib.Omega.{arith}
use borrow.Author.Rules.{rules}
use Rattle.arithmetic.proofs.Rows.{past}
use Rattle.arithmetic.proofs.root.row.Goals as goal

none : (c : goal.In_default) → ⊥
none c = omega (arith, past 24 c.args.i c.in_default.in_default-own.rest c.requires.0, c.requires.1)

pub returns-in_default : goal.returns-in_default
returns-in_default c = absurd (none c)
