-- `words::word_at` meets its contract. Assumes nothing.
use borrow.Author.Rules.{rules}
use native.Mathlib.Nat.{add-zero}
use Rattle.words.specs.Words.{word_of}
use Rattle.words.proofs.word_at.Goals as goal

pub returns : goal.returns
unfolding word_of
returns c = simp (
  c.byte_at.ensures.0,
  c.byte_at-2.ensures.0,
  c.byte_at-3.ensures.0,
  c.byte_at-4.ensures.0,
  add-zero,
)
