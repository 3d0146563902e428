-- Laws of writing a record: the stores, one behind the other, are the record in front of what stood behind it. Assumes nothing.
use Rattle.std.proofs.Common.{◌≡◌, ℕ, ◌+◌, ◌%◌, ◌<◌, ◌≤◌, List, ◌++◌, length, drop, set, zero-add, le-leb}
use lib.Seq.{sets, sets-eq}
use borrow.Author.Tests.{lt-leb}
use Rattle.arithmetic.specs.Binary32.{when◌then◌else◌}
use Rattle.admission.specs.Faults.{fine, fault}
use Rattle.words.specs.Words.{pair_bytes, word_bytes}
use Rattle.fields.specs.Bytes.{big_endian}
use Rattle.fields.proofs.WordLaws.{pair-stored, word-stored}
use Rattle.answer_records.specs.declared.Answer.{Answer}
use Rattle.answer_records.specs.Answers.{outcome_length, refusal_length, answer_version, longest_answer, answer_bytes, refusal_bytes, written, laid}

module _ (bytes l : List ℕ) where
  too_short : length l < length bytes → written (fault 10) l ≡ laid bytes l
  unfolding laid when◌then◌else◌
  too_short h = rw (lt-leb (length bytes) (length l) h)

  pub laid-there : length bytes ≤ length l → laid bytes l ≡ written fine (bytes ++ drop (length bytes) l)
  unfolding laid when◌then◌else◌
  laid-there h = rw (le-leb (length bytes) (length l) h)

  room : length bytes ≤ length l → written fine (sets l 0 bytes) ≡ laid bytes l
  room h = rw (laid-there h, sets-eq bytes l 0 (rw zero-add h), zero-add)

module _ (a : Answer) (l : List ℕ) where
  pub no_room : length l < longest_answer → written (fault 10) l ≡ laid (answer_bytes a) l
  unfolding answer_bytes big_endian
  no_room = too_short (answer_bytes a) l

  pub stored : (named placed-x placed-y placed-line whole : List ℕ) → longest_answer ≤ length l →
      named ≡ sets l 0 (pair_bytes outcome_length) →
      placed-x ≡ sets (set (set named 2 answer_version) 3 a.code) 4 (word_bytes a.x)
      → placed-y ≡ sets placed-x 8 (word_bytes a.y) → placed-line ≡ sets placed-y 12 (pair_bytes a.failed) →
      whole ≡ sets placed-line 14 (word_bytes a.probes) → written fine whole ≡ laid (answer_bytes a) l
  unfolding answer_bytes big_endian
  stored named placed-x placed-y placed-line whole h by_length by-x by-y by-line by-probes =
      rw (
        by-probes,
        by-line,
        by-y,
        by-x,
        by_length,
        pair-stored outcome_length,
        word-stored a.x,
        word-stored a.y,
        pair-stored a.failed,
        word-stored a.probes,
      ) (room (answer_bytes a) l h)

module _ (n : ℕ) (l : List ℕ) where
  pub no-room-for-refusal : length l < 4 → written (fault 10) l ≡ laid (refusal_bytes n) l
  unfolding refusal_bytes big_endian
  no-room-for-refusal = too_short (refusal_bytes n) l

  pub stored-refusal : (named : List ℕ) (code : ℕ) → 4 ≤ length l → named ≡ sets l 0 (pair_bytes refusal_length) →
      code ≡ (128 + n) % 256 → written fine (set (set named 2 answer_version) 3 code) ≡ laid (refusal_bytes n) l
  unfolding refusal_bytes big_endian
  stored-refusal named code h e c = rw (e, c, pair-stored refusal_length) (room (refusal_bytes n) l h)
