-- `words::put_word` meets its contract. Assumes nothing.
use native.Mathlib.Nat.{add-zero}
use native.Mathlib.Numerals.{towards_suc}
use borrow.Author.Rules.{rules}
use Rattle.words.specs.Words.{word_bytes}
use Rattle.words.proofs.put_word.Goals as goal

pub returns : goal.returns
unfolding word_bytes
returns c =
    simp (
      c.put_byte-4.ensures,
      c.put_byte-3.ensures,
      c.put_byte-2.ensures,
      c.put_byte.ensures,
      towards_suc,
      add-zero,
    )
