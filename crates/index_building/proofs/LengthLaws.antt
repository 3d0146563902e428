-- Laws of the lengths of an index's bytes. Assumes nothing.
use Prim.Native.Nat.{ℕ, zero, suc, ◌*◌}
use native.Mathlib.Omega.{arith}
use mathlib.Core.Path.{◌≡◌, refl, ◌∙◌}
use mathlib.Core.List.{List}
use lib.ListN.{length, length-append}
use Rattle.words.specs.Words.{word_bytes}
use Rattle.answer_logs.specs.Logs.{Entry}
use Rattle.index_building.specs.Indexes.{entries_for, index_length, entry_with, entry_of, entries, head, start_of, index_of}

pub entry_length : (offset before : ℕ) → length (entry_with offset before) ≡ 8
unfolding entry_with word_bytes
entry_length offset before = refl

module _ (log_length count : ℕ) where
  pub head-length : length (head log_length count) ≡ 13
  unfolding head word_bytes
  head-length = refl

  pub start-length : length (start_of log_length count) ≡ 21
  unfolding start_of head entry_with word_bytes
  start-length = refl

module _ (l : List Entry) where
  pub one-length : (j : ℕ) → length (entry_of l j) ≡ 8
  unfolding entry_of
  one-length j = entry_length _ _

  pub entries-length : (j n : ℕ) → length (entries l j n) ≡ 8 * n
  unfolding entries
  entries-length j zero = refl
  entries-length j (suc n) =
      length-append (entry_of l j) (entries l (suc j) n) ∙ omega (arith, one-length j, entries-length (suc j) n)

  pub index-length : (log_length : ℕ) → length (index_of log_length l) ≡ index_length (length l)
  unfolding index_of
  index-length log_length =
      length-append (head log_length (length l)) (entries l 0 (entries_for (length l)))
      ∙ omega (arith, head-length log_length (length l), entries-length 0 (entries_for (length l)))
