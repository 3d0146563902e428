-- `arithmetic::abs` meets its contract. Assumes nothing.
use mathlib.Core.Path.{sym, subst}
use lib.Dec.{T}
use Rattle.arithmetic.proofs.Signs.{is_zero, is_negative, abs-zero, abs-negative, abs-rest}
use Rattle.arithmetic.proofs.abs.Goals as goal

pub returns-then-x : goal.returns-then-x
returns-then-x c = abs-zero _ (subst T (sym c.well_formed.0.1) tt) (is_zero _ c.if-x.true)

pub returns-then-x-2 : goal.returns-then-x-2
returns-then-x-2 c = abs-negative _ (is_negative _ c.if-x-2.true)

pub returns : goal.returns
returns c = abs-rest _ c.if-x.false c.if-x-2.false
