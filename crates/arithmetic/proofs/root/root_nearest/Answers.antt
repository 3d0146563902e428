-- `arithmetic::root::root_nearest` meets its contract. Assumes nothing.
use native.Mathlib.Omega.{arith}
use borrow.Author.Rules.{rules}
use Rattle.arithmetic.proofs.root.root_nearest.Goals as goal

pub nearer-requires : goal.nearer-requires
nearer-requires c = (c.requires.0, c.requires.1, c.first_guess.ensures)

pub corrected-requires : goal.corrected-requires
corrected-requires c = (omega arith, c.requires.1, c.nearer.ensures.0, c.nearer.ensures.1)

pub returns : goal.returns
returns c = c.corrected.ensures

pub first_guess-requires : goal.first_guess-requires
first_guess-requires c = (c.requires.0, c.requires.1)
