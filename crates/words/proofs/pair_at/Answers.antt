-- `words::pair_at` meets its contract. Assumes nothing.
use borrow.Author.Rules.{rules}
use native.Mathlib.Nat.{add-zero}
use Rattle.words.specs.Words.{pair_of}
use Rattle.words.proofs.pair_at.Goals as goal

pub returns : goal.returns
unfolding pair_of
returns c = simp (c.byte_at.ensures.0, c.byte_at-2.ensures.0, add-zero)
