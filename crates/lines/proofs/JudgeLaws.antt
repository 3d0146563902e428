-- Laws of the faults of lines: the first one is told. Assumes nothing.
use Prim.Native.Nat.{ℕ, ◌+◌, ◌≤◌, ◌<◌}
use mathlib.Core.Path.{◌≡◌, refl}
use mathlib.Core.List.{List, [], ◌∷◌, ◌++◌}
use lib.ListN.{length, take, drop, get_or}
use Rattle.admission.specs.Faults.{fine, fault, ◌⊳◌}
use Rattle.admission.proofs.FaultLaws.{⊳-assoc}
use Rattle.lines.specs.declared.Line.{Line}
use Rattle.lines.specs.LineFaults.{line_fault, lines_fault}
use Rattle.lines.proofs.Fold.{left-next, left-none}

pub faults-append : (l m : List Line) → lines_fault (l ++ m) ≡ (lines_fault l ⊳ lines_fault m)
unfolding lines_fault
faults-append [] m = refl
faults-append (x ∷ xs) m = rw (faults-append xs m) (⊳-assoc (line_fault x) (lines_fault xs) (lines_fault m))

-- ---- the first n lines of a list, from the i-th on: a line that passes, one that does not, and none left
module _ (l : List Line) (n i : ℕ) (fits : n ≤ length l) where
  pub judged-on : (d : Line) → i < n → fine ≡ line_fault (get_or l i d) → lines_fault (drop i (take n l))
      ≡ lines_fault (drop (i + 1) (take n l))
  unfolding lines_fault
  judged-on d h e = rw (left-next l n i fits d h, ← e)

  pub judged-stop : (d : Line) (r : ℕ) → i < n → fault r ≡ line_fault (get_or l i d) → lines_fault (drop i (take n l)) ≡ fault r
  unfolding lines_fault
  judged-stop d r h e = rw (left-next l n i fits d h, ← e)

  pub judged-done : n ≤ i → lines_fault (drop i (take n l)) ≡ fine
  unfolding lines_fault
  judged-done h = rw (left-none l n i fits h)
