-- Laws of the index's bytes: each number is read back from its place. Assumes nothing.
use Prim.Native.Nat.{ℕ, zero, suc, ◌+◌, ◌*◌, ◌/◌, ◌%◌, ◌≤◌, ◌<◌}
use native.Mathlib.Omega.{arith}
use native.Mathlib.Nat.{zero-add, add-zero}
use mathlib.Core.Path.{◌≡◌, refl, sym, ap, ◌∙◌}
use mathlib.Core.List.{List, ◌++◌}
use lib.ListN.{length, take, drop, get_or}
use lib.Seq.{take_at, drop_at, drop-drop}
use borrow.Author.Tests.{le-leb, eq-eqb}
use Rattle.words.specs.Words.{word_of, word_bytes}
use Rattle.fields.specs.Bytes.{big_endian, big_endian_number, big_endian_from}
use Rattle.fields.proofs.ByteLaws.{number-of-bytes}
use Rattle.admission.specs.Faults.{fine}
use Rattle.answer_logs.specs.Logs.{Entry}
use Rattle.index_building.specs.Indexes.{greatest, entries_for, index_length, entry_with, entry_of, entries, head, index_of}
use Rattle.fallback_index.specs.Questions.{named_rest, named_log, named_count, offset_in, before_in, head_fault, head_in, entry_in}
use Rattle.index_building.proofs.LengthLaws.{head-length, one-length}

-- four bytes are read back
bytes_read : (x : ℕ) → x ≤ greatest → x / 16777216 % 256 * 16777216 + x / 65536 % 256 * 65536 + x / 256 % 256 * 256 + x % 256 ≡ x
unfolding big_endian big_endian_number big_endian_from
bytes_read x h = omega (arith, number-of-bytes 4 x (omega arith))

-- ---- an entry

module _ (offset before : ℕ) where
  pub offset_read : offset ≤ greatest → offset_in (entry_with offset before) ≡ offset
  unfolding entry_with word_bytes word_of
  offset_read h = bytes_read offset h

  pub before-read : before ≤ greatest → before_in (entry_with offset before) ≡ before
  unfolding entry_with word_bytes word_of
  before-read h = bytes_read before h

-- ---- the fields before the entries

module _ (log_length count : ℕ) where
  version-read : get_or (head log_length count) 4 0 ≡ 1
  unfolding head word_bytes
  version-read = refl

  pub log-read : log_length ≤ greatest → named_log (head log_length count) ≡ log_length
  unfolding head word_bytes word_of
  log-read h = bytes_read log_length h

  pub count-read : count ≤ greatest → named_count (head log_length count) ≡ count
  unfolding head word_bytes word_of
  count-read h = bytes_read count h

  rest_read : count ≤ greatest → named_rest (head log_length count) ≡ 9 + 8 * entries_for count
  unfolding head word_bytes word_of
  rest_read h = bytes_read (9 + 8 * (count / 64 + 1)) (omega arith)

  -- such fields have no fault
  pub head-fine : count ≤ greatest → head_fault (index_length count) (head log_length count) ≡ fine
  unfolding head_fault
  head-fine h =
      let n = index_length count in
      rw (
        le-leb 4 n (omega arith),
        eq-eqb n (4 + named_rest (head log_length count)) (omega (arith, rest_read h)),
        le-leb 5 n (omega arith),
        version-read,
        le-leb 13 n (omega arith),
        eq-eqb n (index_length (named_count (head log_length count))) (ap index_length (sym (count-read h))),
      )

-- ---- the entries

module _ (l : List Entry) where
  entry_at : (k j n : ℕ) → k < n → take 8 (drop (8 * k) (entries l j n)) ≡ entry_of l (j + k)
  unfolding entries
  entry_at k j zero h = absurd (omega arith)
  entry_at zero j (suc n) h = take_at (entry_of l j) (entries l (suc j) n) 8 (one-length l j) ∙ rw add-zero
  entry_at (suc k) j (suc n) h =
      let on : 8 * suc k ≡ 8 + 8 * k = omega arith in
      let next : suc j + k ≡ j + suc k = omega arith in
      rw (
        on,
        ← drop-drop (8 * k) 8 (entry_of l j ++ entries l (suc j) n),
        drop_at (entry_of l j) (entries l (suc j) n) 8
            (one-length l j),
      ) (entry_at k (suc j) n (omega arith) ∙ ap (entry_of l) next)

  module _ (log_length : ℕ) where
    pub head-there : head_in (index_of log_length l) ≡ head log_length (length l)
    unfolding head_in index_of
    head-there = take_at (head log_length (length l)) (entries l 0 (entries_for (length l))) 13 (head-length log_length (length l))

    pub entry-there : (a : ℕ) → a ≤ length l → entry_in (index_of log_length l) a ≡ entry_of l (a / 64)
    unfolding entry_in index_of
    entry-there a h =
        let all = entries l 0 (entries_for (length l)) in
        let first = head log_length (length l) in
        rw (← drop-drop (8 * (a / 64)) 13 (first ++ all), drop_at first all 13 (head-length log_length (length l)))
        (entry_at (a / 64) 0 (entries_for (length l)) (omega arith) ∙ ap (entry_of l) (zero-add (a / 64)))
