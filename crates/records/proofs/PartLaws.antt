-- Laws of the next part of a stream: how many bytes it takes, and that bytes behind it do not change it. Assumes nothing.
use Prim.Native.Nat.{ℕ, ◌+◌, ◌≤◌, ◌<◌}
use native.Mathlib.Omega.{arith}
use mathlib.Core.Path.{◌≡◌, refl}
use mathlib.Core.List.{List, ◌++◌}
use lib.Dec.{eqb, ltb}
use lib.ListN.{length, length-append, get_or-append}
use borrow.Author.Tests.{ltb-true, ltb-false, eqb-true, eqb-false, lt-ltb, le-ltb, ne_eqb}
use Rattle.arithmetic.specs.Binary32.{when◌then◌else◌}
use Rattle.arithmetic.proofs.Choice.{if-case}
use Rattle.words.specs.Words.{pair_of}
use Rattle.scene_records.specs.Versions.{longest_either}
use Rattle.records.specs.Parts.{Part, skipped, overlong, whole, cut_short, skipped_of, part_in}

-- how many bytes a part of l takes; where there is none, l is shorter than the longest record
pub data Lies (skip : ℕ) (l : List ℕ) : Part → Type 0 where
  skips : {k : ℕ} → 1 ≤ k → k ≤ skip → k ≤ length l → Lies skip l (skipped k)
  names : {n : ℕ} → skip ≤ 0 → 2 ≤ length l → longest_either < n → n ≡ pair_of l 0 → Lies skip l (overlong n)
  holds : {k : ℕ} → skip ≤ 0 → 2 ≤ k → k ≤ 2 + longest_either → k ≤ length l → k ≡ 2 + pair_of l 0 → Lies skip l (whole k)
  none : length l ≤ 1 + longest_either → Lies skip l cut_short

pub lies : (skip : ℕ) (l : List ℕ) → Lies skip l (part_in skip l)
unfolding part_in skipped_of
lies skip l =
    if-case (Lies skip l) (ltb 0 skip)
    (λ some. if-case (Lies skip l) (eqb (length l) 0) (λ e. none (omega (arith, eqb-true (length l) 0 e)))
    (λ e. if-case (Lies skip l) (ltb (length l) skip)
    (λ t. skips (omega (arith, eqb-false (length l) 0 e)) (omega (arith, ltb-true (length l) skip t)) (omega arith))
    (λ t. skips (omega (arith, ltb-true 0 skip some)) (omega arith) (omega (arith, ltb-false (length l) skip t)))))
    (λ done. if-case (Lies skip l) (ltb (length l) 2) (λ t. none (omega (arith, ltb-true (length l) 2 t)))
    (λ two. if-case (Lies skip l) (ltb longest_either (pair_of l 0))
    (λ t. names (ltb-false 0 skip done) (ltb-false (length l) 2 two) (ltb-true longest_either (pair_of l 0) t) refl)
    (λ t. if-case (Lies skip l) (ltb (length l) (2 + pair_of l 0))
    (λ u. none (omega (arith, ltb-false longest_either (pair_of l 0) t, ltb-true (length l) (2 + pair_of l 0) u)))
    (λ u. holds (ltb-false 0 skip done) (omega arith) (omega (arith, ltb-false longest_either (pair_of l 0) t))
    (ltb-false (length l) (2 + pair_of l 0) u) refl))))

-- the same of a part that is known
pub skip-lies : {skip k : ℕ} {l : List ℕ} → Lies skip l (skipped k) → (1 ≤ k) × (k ≤ skip) × (k ≤ length l)
skip-lies (skips a b c) = (a, b, c)

pub hold-lies : {skip k : ℕ} {l : List ℕ} → Lies skip l (whole k) → (2 ≤ k) × (k ≤ length l)
hold-lies (holds a b c d e) = (b, d)

-- ---- bytes to be skipped

module _ (skip : ℕ) (l : List ℕ) (some : 1 ≤ skip) (there : 1 ≤ length l) where
  -- all that are there ..
  pub all-skipped : length l < skip → part_in skip l ≡ skipped (length l)
  unfolding part_in skipped_of when◌then◌else◌
  all-skipped h = rw (lt-ltb 0 skip (omega arith), ne_eqb (length l) 0 (λ e. omega arith), lt-ltb (length l) skip h)

  -- .. or all that are to be
  pub as-many-skipped : skip ≤ length l → part_in skip l ≡ skipped skip
  unfolding part_in skipped_of when◌then◌else◌
  as-many-skipped h = rw (lt-ltb 0 skip (omega arith), ne_eqb (length l) 0 (λ e. omega arith), le-ltb (length l) skip h)

-- ---- bytes behind a part

same-length-field : (a b : List ℕ) → 2 ≤ length a → pair_of (a ++ b) 0 ≡ pair_of a 0
unfolding pair_of
same-length-field a b h = rw (get_or-append a b 0 0 (omega arith), get_or-append a b 0 1 h)

module _ (skip : ℕ) (a b : List ℕ) where
  pub overlong-stays : {n : ℕ} → Lies skip a (overlong n) → part_in skip (a ++ b) ≡ overlong n
  unfolding part_in when◌then◌else◌
  overlong-stays {n} (names z two far e) =
      let more : 2 ≤ length (a ++ b) = rw length-append (omega arith) in
      rw (le-ltb 0 skip z, le-ltb (length (a ++ b)) 2 more, same-length-field a b two, ← e, lt-ltb longest_either n far)

  pub whole-stays : {k : ℕ} → Lies skip a (whole k) → part_in skip (a ++ b) ≡ whole k
  unfolding part_in when◌then◌else◌
  whole-stays {k} (holds z two near there e) =
      let more : k ≤ length (a ++ b) = rw length-append (omega arith) in
      let low : pair_of a 0 ≤ longest_either = omega arith in
      rw (
        le-ltb 0 skip z,
        le-ltb (length (a ++ b)) 2 (omega arith),
        same-length-field a b (omega arith),
        le-ltb longest_either (pair_of a 0) low,
        ← e,
        le-ltb (length (a ++ b)) k more,
      )
