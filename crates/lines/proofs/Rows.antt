-- A list of numbers read by fours: how many lines it holds, and which. Assumes nothing.
use Prim.Native.Nat.{ℕ, zero, suc, ◌+◌, ◌*◌, ◌/◌, ◌%◌, ◌≤◌}
use mathlib.Core.Path.{◌≡◌, refl, ap}
use mathlib.Core.List.{List, [], ◌∷◌, ◌++◌}
use native.Mathlib.Omega.{arith}
use native.Mathlib.Numerals.{add-one, add-two, add-three}
use lib.ListN.{length, length-take, take, get_or, set}
use lib.Seq.{take-length}
use lib.Ieee.{Float, nan}
use Rattle.common.specs.Vectors.{vec}
use Rattle.lines.specs.declared.Line.{Line}
use Rattle.lines.specs.Lines.{line, off_line, lines_of}

-- how many lines there are
pub lines_long : (b : List Float) → length (lines_of b) ≡ length b / 4
unfolding lines_of
lines_long [] = refl
lines_long (w ∷ []) = refl
lines_long (w ∷ x ∷ []) = refl
lines_long (w ∷ x ∷ y ∷ []) = refl
lines_long (w ∷ x ∷ y ∷ z ∷ r) = let h = lines_long r in omega arith

-- where there are 4 n numbers there are n lines
pub lines_fit : (b : List Float) (n : ℕ) → 4 * n ≤ length b → n ≤ length (lines_of b)
lines_fit b n h = rw (lines_long b) (omega arith)

-- and so many lines as the first n of them are have their numbers
pub count_fits : (b : List Float) (n : ℕ) {r : ℕ} → r ≡ length (take n (lines_of b)) → 4 * r ≤ length b
count_fits b n e = rw (e, length-take n (lines_of b), lines_long b) (omega arith)

pub lines-take-all : (b : List Float) → take (length b / 4) (lines_of b) ≡ lines_of b
lines-take-all b = rw (← lines_long b) (take-length (lines_of b))

-- the four numbers from k on, as a line
abbrev pub line_at : List Float → ℕ → Line
line_at b k = line (vec (get_or b k nan) (get_or b (k + 1) nan)) (vec (get_or b (k + 2) nan) (get_or b (k + 3) nan))

-- the line at an index is four numbers; four numbers stored are the line at an index
pub four-get : (b : List Float) (i k : ℕ) → k ≡ 4 * i → k + 4 ≤ length b → get_or (lines_of b) i off_line ≡ line_at b k
unfolding lines_of
four-get [] i k e h = absurd (omega arith)
four-get (w ∷ []) i k e h = absurd (omega arith)
four-get (w ∷ x ∷ []) i k e h = absurd (omega arith)
four-get (w ∷ x ∷ y ∷ []) i k e h = absurd (omega arith)
four-get (w ∷ x ∷ y ∷ z ∷ r) zero k e h =
    let f : k ≡ 0 = omega arith in
    rw f refl
four-get (w ∷ x ∷ y ∷ z ∷ r) (suc i) k e h =
    let f : k ≡ suc (suc (suc (suc (4 * i)))) = omega arith in
    let ih = four-get r i (4 * i) refl (omega arith) in
    rw (f, add-one, add-two, add-three) (rw (add-one, add-two, add-three) at ih)

pub four-set : (b : List Float) (i k : ℕ) (p q s t : Float) → k ≡ 4 * i → k + 4 ≤ length b
    → lines_of (set (set (set (set b k p) (k + 1) q) (k + 2) s) (k + 3) t) ≡ set (lines_of b) i (line (vec p q) (vec s t))
unfolding lines_of
four-set [] i k p q s t e h = absurd (omega arith)
four-set (w ∷ []) i k p q s t e h = absurd (omega arith)
four-set (w ∷ x ∷ []) i k p q s t e h = absurd (omega arith)
four-set (w ∷ x ∷ y ∷ []) i k p q s t e h = absurd (omega arith)
four-set (w ∷ x ∷ y ∷ z ∷ r) zero k p q s t e h =
    let f : k ≡ 0 = omega arith in
    rw f refl
four-set (w ∷ x ∷ y ∷ z ∷ r) (suc i) k p q s t e h =
    let f : k ≡ suc (suc (suc (suc (4 * i)))) = omega arith in
    let ih = four-set r i (4 * i) p q s t refl (omega arith) in
    rw (f, add-one, add-two, add-three) (ap (λ ls. line (vec w x) (vec y z) ∷ ls) (rw (add-one, add-two, add-three) at ih))

-- the numbers of the first n lines are those lines
four-more : (n : ℕ) → ((r : List Float) → lines_of (take (4 * n) r) ≡ take n (lines_of r)) → (b : List Float) →
    lines_of (take (suc (suc (suc (suc (4 * n))))) b) ≡ take (suc n) (lines_of b)
unfolding lines_of
four-more n h [] = refl
four-more n h (w ∷ []) = refl
four-more n h (w ∷ x ∷ []) = refl
four-more n h (w ∷ x ∷ y ∷ []) = refl
four-more n h (w ∷ x ∷ y ∷ z ∷ r) = ap (λ ls. line (vec w x) (vec y z) ∷ ls) (h r)

pub lines-take : (b : List Float) (n : ℕ) → lines_of (take (4 * n) b) ≡ take n (lines_of b)
unfolding lines_of
lines-take b zero = refl
lines-take b (suc n) =
    let e : 4 * suc n ≡ suc (suc (suc (suc (4 * n)))) = omega arith in
    rw e (four-more n (λ r. lines-take r n) b)

-- numbers behind whole lines are the lines behind them
pub lines-append : (b c : List Float) → length b % 4 ≡ 0 → lines_of (b ++ c) ≡ lines_of b ++ lines_of c
unfolding lines_of
lines-append [] c h = refl
lines-append (w ∷ []) c h = absurd (omega arith)
lines-append (w ∷ x ∷ []) c h = absurd (omega arith)
lines-append (w ∷ x ∷ y ∷ []) c h = absurd (omega arith)
lines-append (w ∷ x ∷ y ∷ z ∷ r) c h = ap (λ ls. line (vec w x) (vec y z) ∷ ls) (lines-append r c (omega arith))
