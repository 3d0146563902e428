-- Lines as numbers, four a line: there and back, and one line more behind those that stand. Assumes nothing.
use Prim.Native.Nat.{ℕ, ◌+◌, ◌*◌, ◌%◌, ◌≤◌}
use mathlib.Core.Path.{◌≡◌, refl, sym, ap, ◌∙◌}
use mathlib.Core.List.{List, [], ◌∷◌, ◌++◌}
use native.Mathlib.Omega.{arith}
use lib.ListN.{length, take, drop, length-append}
use lib.Seq.{sets, sets-eq, take_at, drop_at, drop-drop, length-take-le}
use lib.Ieee.{Float}
use Rattle.lines.specs.declared.Line.{Line}
use Rattle.lines.specs.Lines.{lines_of, four_of, numbers_of}
use Rattle.lines.proofs.Rows.{lines-append}

pub numbers-back : (b : List Float) → length b % 4 ≡ 0 → numbers_of (lines_of b) ≡ b
unfolding numbers_of lines_of
numbers-back [] h = refl
numbers-back (w ∷ []) h = absurd (omega arith)
numbers-back (w ∷ x ∷ []) h = absurd (omega arith)
numbers-back (w ∷ x ∷ y ∷ []) h = absurd (omega arith)
numbers-back (w ∷ x ∷ y ∷ z ∷ r) h = ap (λ (b : List Float). w ∷ x ∷ y ∷ z ∷ b) (numbers-back r (omega arith))

pub lines-back : (ls : List Line) → lines_of (numbers_of ls) ≡ ls
unfolding numbers_of lines_of
lines-back [] = refl
lines-back (l ∷ ls) = ap (λ (m : List Line). l ∷ m) (lines-back ls)

pub numbers-long : (ls : List Line) → length (numbers_of ls) ≡ 4 * length ls
unfolding numbers_of
numbers-long [] = refl
numbers-long (l ∷ ls) = let h = numbers-long ls in omega arith

-- ---- one line stored behind the first n
module _ (b : List Float) (n : ℕ) (l : Line) (fits : 4 * n + 4 ≤ length b) where
  front : length (take (4 * n) b) ≡ 4 * n
  front = length-take-le (4 * n) b (omega arith)

  four : length (take (4 * n) b ++ four_of l) ≡ 4 * (n + 1)
  four = rw (length-append, front) (omega arith)

  pub stored-take : take (4 * (n + 1)) (sets b (4 * n) (four_of l)) ≡ take (4 * n) b ++ four_of l
  stored-take = rw (sets-eq (four_of l) b (4 * n) fits) (take_at (take (4 * n) b ++ four_of l) (drop (4 * n + 4) b)
      (4 * (n + 1)) four)

  pub stored-drop : drop (4 * (n + 1)) (sets b (4 * n) (four_of l)) ≡ drop 4 (drop (4 * n) b)
  stored-drop = rw (sets-eq (four_of l) b (4 * n) fits) (drop_at (take (4 * n) b ++ four_of l) (drop (4 * n + 4) b)
      (4 * (n + 1)) four ∙ sym (drop-drop 4 (4 * n) b))

  pub stored_lines : lines_of (take (4 * (n + 1)) (sets b (4 * n) (four_of l))) ≡ lines_of (take (4 * n) b) ++ (l ∷ [])
  unfolding lines_of
  stored_lines = rw stored-take (lines-append (take (4 * n) b) (four_of l) (rw front (omega arith)))
