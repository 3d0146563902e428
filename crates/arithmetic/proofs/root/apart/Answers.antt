-- `arithmetic::root::apart` meets its contract. Assumes nothing.
use native.Mathlib.Omega.{arith}
use borrow.Author.Rules.{rules}
use Rattle.arithmetic.proofs.Patterns.{worth-small, worth-digits}
use Rattle.arithmetic.proofs.root.apart.Goals as goal

pub returns-then-b-lt8388608 : goal.returns-then-b-lt8388608
returns-then-b-lt8388608 c = rw (worth-small _ c.if-b-lt8388608.true) c.lifted.ensures

pub returns : goal.returns
returns c = record { least = omega arith; most = omega arith; shift = omega arith; value = worth-digits _ c.if-b-lt8388608.false }
