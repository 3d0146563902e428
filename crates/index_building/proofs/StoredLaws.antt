-- Laws of new numbers stored over an index, in the code's steps. Assumes nothing.
use Prim.Native.Nat.{ℕ, ◌+◌, ◌%◌, ◌≤◌, ◌<◌}
use native.Mathlib.Omega.{arith}
use native.Mathlib.Decide.{ℕ_discrete}
use mathlib.Core.Path.{◌≡◌, sym, ap, ◌∙◌}
use mathlib.Core.List.{List, ◌++◌}
use lib.ListN.{length, length-append}
use lib.Seq.{sets}
use borrow.Author.Tests.{le-leb, lt-leb, eq-eqb, ne_eqb}
use Rattle.std.specs.Prelude.{Ok, Err}
use Rattle.arithmetic.specs.Binary32.{when◌then◌else◌}
use Rattle.index_building.specs.Indexes.{greatest, index_length, entry_place, new_entry, head, standing, laid_over}
use Rattle.index_building.specs.Stores.{store_fault, stored_over, ends_of, ends_fault, ends_over}
use Rattle.index_building.proofs.LengthLaws.{entry_length, head-length}
use Rattle.index_building.proofs.LaidLaws.{nothing-laid}
use Rattle.fields.proofs.StoreLaws.{sets-append}

-- the entries of a record less, and the new one if there is one
pub new-length : (count total fell : ℕ) → entry_place (count + 63) + length (new_entry count total fell) ≡ index_length count
unfolding new_entry when◌then◌else◌
new-length count total fell = go (ℕ_discrete (count % 64) 0)
  where
    go : Dec (count % 64 ≡ 0) → entry_place (count + 63) + length (new_entry count total fell) ≡ index_length count
    go (yes p) = rw (eq-eqb (count % 64) 0 p) (omega (arith, entry_length total fell))
    go (no p) = rw (ne_eqb (count % 64) 0 p) (omega arith)

module _ (l : List ℕ) (total count fell : ℕ) where
  pub stored-long : greatest < total → standing (Err 4) l ≡ stored_over l total count fell
  unfolding stored_over store_fault
  stored-long h = rw (lt-leb total greatest h)

  module _ (log : total ≤ greatest) where
    pub stored-many : greatest < count → standing (Err 4) l ≡ stored_over l total count fell
    unfolding stored_over store_fault
    stored-many h = rw (le-leb total greatest log, lt-leb count greatest h)

    module _ (records : count ≤ greatest) where
      pub stored_short : length l < index_length count → standing (Err 10) l ≡ stored_over l total count fell
      unfolding stored_over store_fault
      stored_short h = rw (le-leb total greatest log, le-leb count greatest records, lt-leb (index_length count) (length l) h)

      pub stored-done : (m out : List ℕ) (needed : ℕ) → needed ≡ index_length count → index_length count ≤ length l →
          m ≡ sets l 0 (head total count) → out ≡ sets m (entry_place (count + 63)) (new_entry count total fell) →
          standing (Ok needed) out ≡ stored_over l total count fell
      unfolding stored_over store_fault
      stored-done m out needed e h p q =
          rw (le-leb total greatest log, le-leb count greatest records, le-leb (index_length count) (length l) h, q, p, e)

-- ---- the ends alone

pub new-short : (count total fell : ℕ) → length (new_entry count total fell) ≤ 8
unfolding new_entry when◌then◌else◌
new-short count total fell = omega (arith, new-length count total fell)

module _ (l : List ℕ) (total count fell : ℕ) where
  pub ends-long : greatest < total → standing (Err 4) l ≡ ends_over l total count fell
  unfolding ends_over ends_fault
  ends-long h = rw (lt-leb total greatest h)

  ends-length : length (ends_of total count fell) ≡ 13 + length (new_entry count total fell)
  unfolding ends_of
  ends-length = length-append (head total count) (new_entry count total fell)
      ∙ ap (λ (n : ℕ). n + length (new_entry count total fell)) (head-length total count)

  module _ (log : total ≤ greatest) where
    pub ends-many : greatest < count → standing (Err 4) l ≡ ends_over l total count fell
    unfolding ends_over ends_fault
    ends-many h = rw (le-leb total greatest log, lt-leb count greatest h)

    module _ (records : count ≤ greatest) where
      pub ends-short : length l < 21 → standing (Err 10) l ≡ ends_over l total count fell
      unfolding ends_over ends_fault
      ends-short h = rw (le-leb total greatest log, le-leb count greatest records, lt-leb 21 (length l) h)

      module _ (room : 21 ≤ length l) where
        ends-laid : sets (sets l 0 (head total count)) 13 (new_entry count total fell) ≡ laid_over (ends_of total count fell) l
        unfolding ends_of
        ends-laid =
            sym (sets-append l 0 (head total count) (new_entry count total fell)
            ∙ ap (λ (n : ℕ). sets (sets l 0 (head total count)) (0 + n) (new_entry count total fell))
            (head-length total count))
            ∙ nothing-laid (head total count ++ new_entry count total fell) l
            (omega (arith, ends-length, new-short count total fell))

        pub ends-done : (m out : List ℕ) (end : ℕ) → m ≡ sets l 0 (head total count) →
            out ≡ sets m 13 (new_entry count total fell) →
            end ≡ 13 + length (new_entry count total fell) → standing (Ok end) out ≡ ends_over l total count fell
        unfolding ends_over ends_fault
        ends-done m out end p q e =
            rw (
              le-leb total greatest log,
              le-leb count greatest records,
              le-leb 21 (length l) room,
              q,
              p,
              ends-laid,
              e,
              ← ends-length,
            )
