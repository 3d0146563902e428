-- Lent neighbour lines in order: what a walk over them has left. Assumes nothing.
use Prim.Native.Nat.{ℕ, suc, ◌+◌, ◌-◌, ◌*◌, ◌≤◌, ◌<◌}
use native.Mathlib.Omega.{arith}
use mathlib.Core.Path.{◌≡◌, ◌∙◌}
use mathlib.Core.List.{List}
use lib.Dec.{leb}
use lib.ListN.{drop}
use lib.Seq.{drop-drop}
use lib.Ieee.{Float}
use borrow.Author.Tests.{leb-true}
use Rattle.admission.specs.Faults.{Fault, fine, fault, must, ◌⊳◌}
use Rattle.admission.proofs.FaultLaws.{⊳-fine, must-fine}
use Rattle.dodgy_2d.specs.Scenes.{most_neighbours}
use Rattle.scene_writer.specs.Writing.{lent_line_fault, lent_lines_fault, neighbours_fault}
use Rattle.scene_writer.proofs.Judging.{first-told, second-told}

-- ---- the lines from the i-th of n on

module _ (xs : List Float) (n i : ℕ) where
  abbrev lines_left : ℕ → Fault
  lines_left k = lent_lines_fault (n - k) (drop (4 * k) xs)

  line-more : i < n → lines_left i ≡ (lent_line_fault (drop (4 * i) xs) ⊳ lines_left (i + 1))
  unfolding lent_lines_fault
  line-more h =
      let e : n - i ≡ suc (n - (i + 1)) = omega arith in
      let f : 4 * (i + 1) ≡ 4 * i + 4 = omega arith in
      rw (e, f, ← drop-drop 4 (4 * i) xs)

  pub line_on : i < n → fine ≡ lent_line_fault (drop (4 * i) xs) → lines_left i ≡ lines_left (i + 1)
  line_on h e = line-more h ∙ rw (← e)

  pub line-stop : (r : ℕ) → i < n → fault r ≡ lent_line_fault (drop (4 * i) xs) → lines_left i ≡ fault r
  line-stop r h e = line-more h ∙ rw (← e)

  pub lines-done : n ≤ i → lines_left i ≡ fine
  unfolding lent_lines_fault
  lines-done h =
      let e : n - i ≡ 0 = omega arith in
      rw e

-- ---- the whole

module _ (xs : List Float) (n : ℕ) where
  pub too_many : (r : ℕ) → fault r ≡ must (leb n most_neighbours) 4 → neighbours_fault n xs ≡ fault r
  unfolding neighbours_fault
  too_many r e = first-told (must (leb n most_neighbours) 4) (lent_lines_fault n xs) r e

  pub few : fine ≡ must (leb n most_neighbours) 4 → neighbours_fault n xs ≡ lent_lines_fault n xs
  unfolding neighbours_fault
  few e = second-told (must (leb n most_neighbours) 4) (lent_lines_fault n xs) e

  pub few-passed : neighbours_fault n xs ≡ fine → (n ≤ 64) × (lent_lines_fault n xs ≡ fine)
  unfolding neighbours_fault
  few-passed e =
      let a = ⊳-fine (must (leb n most_neighbours) 4) e in
      (leb-true n most_neighbours (must-fine (leb n most_neighbours) 4 a.0), a.1)
