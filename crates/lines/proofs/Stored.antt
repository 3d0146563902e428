-- A line stored among numbers: where there is room its four numbers stand there and no other line changes; else nothing
-- does. Assumes nothing.
use Prim.Native.Nat.{ℕ, ◌+◌, ◌*◌, ◌≤◌, ◌<◌}
use mathlib.Core.Path.{◌≡◌, refl}
use mathlib.Core.List.{List, [], ◌∷◌, ◌++◌}
use native.Mathlib.Omega.{arith}
use native.Mathlib.Numerals.{add-one, add-two, add-three}
use lib.ListN.{length, take, set}
use lib.Seq.{sets}
use lib.Ieee.{Float}
use borrow.Author.Tests.{le-leb, lt-leb}
use Rattle.arithmetic.specs.Binary32.{when◌then◌else◌}
use Rattle.lines.specs.declared.Line.{Line}
use Rattle.lines.specs.Lines.{lines_of, four_of, line_stored}
use Rattle.lines.proofs.Rows.{lines_fit, four-set}
use Rattle.lines.proofs.Fold.{take_set_next}

module _ (b : List Float) (i : ℕ) (l : Line) where
  pub stored-sets : 4 * i + 4 ≤ length b → line_stored b i l ≡ sets b (4 * i) (four_of l)
  unfolding line_stored when◌then◌else◌
  stored-sets h = simp (le-leb (4 * i + 4) (length b) h)

  pub stored-not : length b < 4 * i + 4 → line_stored b i l ≡ b
  unfolding line_stored when◌then◌else◌
  stored-not h = simp (lt-leb (4 * i + 4) (length b) h)

  pub stored-line : 4 * i + 4 ≤ length b → lines_of (line_stored b i l) ≡ set (lines_of b) i l
  stored-line h = rw (stored-sets h) (rw (add-one, add-two, add-three) at (four-set b i (4 * i) l.point.x
      l.point.y l.direction.x l.direction.y refl h))

  -- behind the first i lines
  pub stored_next : 4 * i + 4 ≤ length b → take (i + 1) (lines_of (line_stored b i l)) ≡ take i (lines_of b) ++ (l ∷ [])
  stored_next h =
      let k : i < length (lines_of b) = omega (arith, lines_fit b (i + 1) (omega arith)) in
      rw (stored-line h) (take_set_next (lines_of b) i k l)
