-- What tests of the length say of a number's bytes, in the words of code: of one byte, two, four; and the bytes that
-- code stores. Assumes nothing.
use Prim.Native.Nat.{ℕ, suc, ◌+◌, ◌*◌, ◌≤◌, ◌<◌}
use native.Mathlib.Omega.{arith}
use native.Mathlib.Nat.{add_assoc, div-one}
use native.Mathlib.Numerals.{add-one}
use mathlib.Core.Path.{◌≡◌, sym, ap, ◌∙◌}
use mathlib.Core.List.{List}
use lib.ListN.{length, take, drop, get_or}
use lib.Seq.{drop-cons}
use borrow.Author.Tests.{lt-leb, le-leb}
use Rattle.words.specs.Words.{pair_of, word_of, pair_bytes, word_bytes}
use Rattle.fields.specs.Bytes.{big_endian_number, big_endian_from, big_endian}
use Rattle.fields.specs.Got.{refused, got, word}

-- one byte more
number_step : (n w : ℕ) (s : List ℕ) (at : ℕ) → at < length s → big_endian_from n (take (suc w) (drop at s))
    ≡ big_endian_from (n * 256 + get_or s at 0) (take w (drop (at + 1) s))
unfolding big_endian_from
number_step n w s at h = rw (add-one, drop-cons s at 0)

-- bytes that are missing
pub word-missing : (w : ℕ) (s : List ℕ) (at : ℕ) → length s < at + w → refused 2 ≡ word w s at
unfolding word
word-missing w s at h = simp (lt-leb (at + w) (length s) h)

module _ (s : List ℕ) (at : ℕ) where
  pub byte-there : at < length s → got (get_or s at 0) (at + 1) ≡ word 1 s at
  unfolding word big_endian_number big_endian_from
  byte-there h =
      let e : get_or s at 0 ≡ 0 + get_or s at 0 = omega arith in
      rw (le-leb (at + 1) (length s) (omega arith), drop-cons s at 0) (ap (λ (n : ℕ). got n (at + 1)) e)

  -- two bytes are what `words` calls the pair, four the word
  pub pair-there : at + 2 ≤ length s → got (pair_of s at) (at + 2) ≡ word 2 s at
  unfolding word big_endian_number big_endian_from pair_of
  pair-there h =
      let e : pair_of s at ≡ big_endian_number (take 2 (drop at s)) =
      sym (number_step 0 1 s at (omega arith) ∙ number_step _ 0 s (at + 1) (omega arith) ∙ omega arith) in
      rw (le-leb (at + 2) (length s) h) (ap (λ (n : ℕ). got n (at + 2)) e)

  pub word-there : at + 4 ≤ length s → got (word_of s at) (at + 4) ≡ word 4 s at
  unfolding word big_endian_number big_endian_from word_of
  word-there h =
      let e : word_of s at ≡ big_endian_number (take 4 (drop at s)) =
      sym (number_step 0 3 s at (omega arith) ∙ number_step _ 2 s (at + 1) (omega arith)
      ∙ number_step _ 1 s (at + 1 + 1) (omega arith) ∙ number_step _ 0 s (at + 1 + 1 + 1) (omega arith)
      ∙ simp add_assoc (omega arith)) in
      rw (le-leb (at + 4) (length s) h) (ap (λ (n : ℕ). got n (at + 4)) e)

-- the bytes that `words` stores
pub pair-stored : (x : ℕ) → pair_bytes x ≡ big_endian 2 x
unfolding pair_bytes big_endian
pair-stored x = rw div-one

pub word-stored : (x : ℕ) → word_bytes x ≡ big_endian 4 x
unfolding word_bytes big_endian
word-stored x = rw div-one
