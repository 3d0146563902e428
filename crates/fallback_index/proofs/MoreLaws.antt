-- Laws of the index of one record more. Assumes nothing.
use Prim.Native.Nat.{ℕ, ◌+◌}
use native.Mathlib.Nat.{add-zero}
use mathlib.Core.Path.{◌≡◌, ◌∙◌}
use mathlib.Core.List.{List, [], ◌∷◌, ◌++◌}
use lib.ListN.{length, take, drop}
use lib.Seq.{take_at, drop_at}
use Rattle.answer_logs.specs.Logs.{Entry}
use Rattle.log_walks.specs.Figures.{sizes, fallback, fallbacks}
use Rattle.log_walks.proofs.SplitLaws.{fallbacks-append}
use Rattle.index_building.specs.Indexes.{entries_for, new_entry, entries, head, index_of}
use Rattle.index_building.specs.Stores.{ends_of}
use Rattle.index_building.proofs.LengthLaws.{head-length}
use Rattle.index_building.proofs.EntryLaws.{one_more, entries-more}
use Rattle.fallback_index.specs.Appends.{updated}

module _ (rs : List Entry) (r : Entry) where
  pub index-more : (before after : ℕ) → after ≡ sizes (rs ++ (r ∷ [])) →
      index_of after (rs ++ (r ∷ [])) ≡ updated after (length rs + 1) (fallbacks (rs ++ (r ∷ []))) (index_of before rs)
  unfolding index_of updated
  index-more before after e =
      rw (
        one_more rs r,
        entries-more rs r,
        ← e,
        drop_at (head before (length rs)) (entries rs 0 (entries_for (length rs))) 13 (head-length before (length rs)),
      )

  pub fallbacks-more : fallbacks (rs ++ (r ∷ [])) ≡ fallbacks rs + fallback r
  unfolding fallbacks
  fallbacks-more = fallbacks-append rs (r ∷ []) ∙ rw add-zero

-- what `put_ends` writes, with the old entries between its two ends
pub updated-ends : (total count fell : ℕ) (old : List ℕ) →
    updated total count fell old ≡ take 13 (ends_of total count fell) ++ (drop 13 old ++ drop 13 (ends_of total count fell))
unfolding updated ends_of
updated-ends total count fell old =
    let first = head total count in
    let last = new_entry count total fell in
    rw (take_at first last 13 (head-length total count), drop_at first last 13 (head-length total count))
