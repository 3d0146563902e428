-- Laws of the entries of one record more. Assumes nothing.
use Prim.Native.Nat.{ℕ, zero, suc, ◌+◌, ◌*◌, ◌/◌, ◌%◌, ◌≤◌}
use native.Mathlib.Omega.{arith}
use native.Mathlib.Decide.{ℕ_discrete}
use native.Mathlib.Nat.{add-zero}
use mathlib.Core.Path.{◌≡◌, refl, sym, ◌∙◌}
use mathlib.Core.List.{List, [], ◌∷◌, ◌++◌, append_assoc, append-nil}
use lib.ListN.{length, length-append}
use lib.Seq.{take-append-le, take-length}
use borrow.Author.Tests.{eq-eqb, ne_eqb}
use Rattle.arithmetic.specs.Binary32.{when◌then◌else◌}
use Rattle.answer_logs.specs.Logs.{Entry}
use Rattle.log_walks.specs.Figures.{sizes, fallbacks}
use Rattle.index_building.specs.Indexes.{entries_for, new_entry, entry_with, entry_of, entries}

-- records behind those that an entry counts do not change it
entry-stays : (rs xs : List Entry) (j : ℕ) → 64 * j ≤ length rs → entry_of (rs ++ xs) j ≡ entry_of rs j
unfolding entry_of
entry-stays rs xs j h = rw (take-append-le (64 * j) rs xs h)

entries-stay : (rs xs : List Entry) (j n : ℕ) → 64 * (j + n) ≤ length rs + 64 → entries (rs ++ xs) j n ≡ entries rs j n
unfolding entries
entries-stay rs xs j zero h = refl
entries-stay rs xs j (suc n) h = rw (entry-stays rs xs j (omega arith), entries-stay rs xs (suc j) n (omega arith))

-- one entry more stands behind the others
entries-snoc : (rs : List Entry) (j n : ℕ) → entries rs j (n + 1) ≡ entries rs j n ++ entry_of rs (j + n)
unfolding entries
entries-snoc rs j zero = append-nil (entry_of rs j) ∙ rw add-zero
entries-snoc rs j (suc n) =
    let e : suc n + 1 ≡ suc (n + 1) = omega arith in
    let k : suc j + n ≡ j + suc n = omega arith in
    rw (e, entries-snoc rs (suc j) n, k) (sym (append_assoc (entry_of rs j) (entries rs (suc j) n) (entry_of rs (j + suc n))))

-- the entry at the log's end
entry-end : (rs : List Entry) (j : ℕ) → 64 * j ≡ length rs → entry_of rs j ≡ entry_with (sizes rs) (fallbacks rs)
unfolding entry_of
entry-end rs j e = rw (e, take-length rs)

module _ (rs : List Entry) (r : Entry) where
  pub one_more : length (rs ++ (r ∷ [])) ≡ length rs + 1
  one_more = length-append rs (r ∷ [])

  pub entries-more : entries (rs ++ (r ∷ [])) 0 (entries_for (length rs + 1)) ≡ entries rs 0 (entries_for (length rs))
      ++ new_entry (length rs + 1) (sizes (rs ++ (r ∷ []))) (fallbacks (rs ++ (r ∷ [])))
  unfolding new_entry when◌then◌else◌
  entries-more = go (ℕ_discrete ((length rs + 1) % 64) 0)
    where
      go : Dec ((length rs + 1) % 64 ≡ 0) → entries (rs ++ (r ∷ [])) 0 (entries_for (length rs + 1))
          ≡ entries rs 0 (entries_for (length rs)) ++ new_entry (length rs + 1) (sizes (rs ++ (r ∷ [])))
          (fallbacks (rs ++ (r ∷ [])))
      go (yes p) =
          let all = rs ++ (r ∷ []) in
          let n = length rs / 64 + 1 in
          let more : (length rs + 1) / 64 + 1 ≡ n + 1 = omega arith in
          let last : 64 * (0 + n) ≡ length all = omega (arith, one_more) in
          rw (
            more,
            entries-snoc all 0 n,
            entries-stay rs (r ∷ []) 0 n (omega arith),
            entry-end all (0 + n) last,
            eq-eqb ((length rs + 1) % 64) 0 p,
          )
      go (no p) =
          let n = length rs / 64 + 1 in
          let same : (length rs + 1) / 64 + 1 ≡ n = omega arith in
          rw (same, entries-stay rs (r ∷ []) 0 n (omega arith), ne_eqb ((length rs + 1) % 64) 0 p)
          (sym (append-nil (entries rs 0 n)))
