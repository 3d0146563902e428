-- A fold over lines that are lent as numbers, from the i-th on: one turn, a turn that ends it, and no turn left. Assumes
-- nothing.
use Prim.Native.Nat.{ℕ, ◌+◌, ◌/◌, ◌≤◌, ◌<◌}
use mathlib.Core.Path.{◌≡◌}
use mathlib.Core.List.{List, foldl}
use native.Mathlib.Omega.{arith}
use lib.ListN.{length, drop, get_or}
use lib.Ieee.{Float}
use Rattle.lines.specs.declared.Line.{Line}
use Rattle.lines.specs.Lines.{lines_of, off_line}
use Rattle.lines.proofs.Fold.{fold_on, fold-stop, fold_done}
use Rattle.lines.proofs.Rows.{lines_fit, lines-take-all}

module _ {S : Type 0} (f : S → Line → S) (b : List Float) (i : ℕ) where
  fits : length b / 4 ≤ length (lines_of b)
  fits = lines_fit b (length b / 4) (omega arith)

  pub lines-on : {s t : S} → i < length b / 4 → f s (get_or (lines_of b) i off_line) ≡ t →
      foldl f s (drop i (lines_of b)) ≡ foldl f t (drop (i + 1) (lines_of b))
  lines-on h e = rw (lines-take-all b) at (fold_on f (lines_of b) (length b / 4) i fits off_line h e)

  pub lines-stop : {s t : S} → i < length b / 4 → f s (get_or (lines_of b) i off_line) ≡ t → ((x : Line) → f t x ≡ t) →
      foldl f s (drop i (lines_of b)) ≡ t
  lines-stop h e stays = rw (lines-take-all b) at (fold-stop f (lines_of b) (length b / 4) i fits off_line h e stays)

  pub lines-done : {s : S} → length b / 4 ≤ i → foldl f s (drop i (lines_of b)) ≡ s
  lines-done {s} h = rw (lines-take-all b) at (fold_done f (lines_of b) (length b / 4) i fits {s = s} h)
