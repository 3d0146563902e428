-- Laws of writing entries: the stores, one behind the other, are the entry's bytes. Assumes nothing.
use Prim.Native.Nat.{ℕ, ◌+◌, ◌/◌, ◌%◌}
use native.Mathlib.Omega.{arith}
use native.Mathlib.Numerals.{towards_suc}
use mathlib.Core.Path.{◌≡◌, refl, sym, ap, ◌∙◌}
use mathlib.Core.List.{List}
use lib.ListN.{length}
use lib.Seq.{sets}
use borrow.Author.Tests.{eq-eqb, ne_eqb}
use Rattle.arithmetic.specs.Binary32.{when◌then◌else◌}
use Rattle.words.specs.Words.{word_bytes}
use Rattle.fields.proofs.StoreLaws.{sets-append}
use Rattle.index_building.specs.Indexes.{entry_with, head, start_of, new_entry}
use Rattle.index_building.proofs.LengthLaws.{head-length, entry_length}

-- a number's lowest four bytes
lowest : (x : ℕ) → word_bytes (x % 4294967296) ≡ word_bytes x
unfolding word_bytes
lowest x =
    let a : x % 4294967296 / 16777216 % 256 ≡ x / 16777216 % 256 = omega arith in
    let b : x % 4294967296 / 65536 % 256 ≡ x / 65536 % 256 = omega arith in
    let c : x % 4294967296 / 256 % 256 ≡ x / 256 % 256 = omega arith in
    let d : x % 4294967296 % 256 ≡ x % 256 = omega arith in
    rw (a, b, c, d)

whole_words : (l : List ℕ) (at offset before : ℕ) → sets (sets l at (word_bytes offset)) (at + 4) (word_bytes before)
    ≡ sets l at (entry_with offset before)
unfolding entry_with word_bytes
whole_words l at offset before = simp towards_suc

pub two-words : (l : List ℕ) (at offset before : ℕ) →
    sets (sets l at (word_bytes (offset % 4294967296))) (at + 4) (word_bytes (before % 4294967296))
    ≡ sets l at (entry_with offset before)
two-words l at offset before =
    ap (λ (v : List ℕ). sets (sets l at v) (at + 4) (word_bytes (before % 4294967296))) (lowest offset)
    ∙ ap (λ (v : List ℕ). sets (sets l at (word_bytes offset)) (at + 4) v) (lowest before) ∙ whole_words l at offset before

pub start-put : (l m out : List ℕ) (total count : ℕ) → m ≡ sets l 0 (head total count) → out ≡ sets m 13 (entry_with 0 0)
    → out ≡ sets l 0 (start_of total count)
unfolding start_of
start-put l m out total count e f =
    f ∙ ap (λ (x : List ℕ). sets x 13 (entry_with 0 0)) e
    ∙ sym (sets-append l 0 (head total count) (entry_with 0 0)
    ∙ ap (λ (n : ℕ). sets (sets l 0 (head total count)) (0 + n) (entry_with 0 0)) (head-length total count))

module _ (i offset before : ℕ) where
  pub entry_new : i % 64 ≡ 0 → entry_with offset before ≡ new_entry i offset before
  unfolding new_entry when◌then◌else◌
  entry_new h = rw (eq-eqb (i % 64) 0 h)

  pub entry-new-length : i % 64 ≡ 0 → length (new_entry i offset before) ≡ 8
  entry-new-length h = ap length (sym (entry_new h)) ∙ entry_length offset before

  pub none-new : (i % 64 ≡ 0 → ⊥) → (l : List ℕ) (at : ℕ) → (l ≡ sets l at (new_entry i offset before))
      × (at ≡ at + length (new_entry i offset before))
  unfolding new_entry when◌then◌else◌
  none-new h l at = rw (ne_eqb (i % 64) 0 h) (refl, omega arith)
