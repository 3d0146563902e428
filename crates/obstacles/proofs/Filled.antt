-- Lent numbers that the lines so far fill, with zeros behind them: how they start, one line more, and the answer that
-- they are. Assumes nothing.
use Prim.Native.Nat.{ℕ, zero, suc, ◌+◌, ◌-◌, ◌*◌, ◌≤◌, ◌<◌}
use mathlib.Core.Path.{◌≡◌, ap, ◌∙◌}
use mathlib.Core.List.{List, ◌++◌}
use native.Mathlib.Omega.{arith}
use lib.ListN.{length, take, drop, replicate, take-append-drop}
use lib.Seq.{sets, length-sets, drop-drop, length-take-le}
use lib.Ieee.{Float}
use Rattle.arithmetic.specs.Binary32.{0ᶠ}
use Rattle.lines.specs.declared.Line.{Line}
use Rattle.lines.specs.Lines.{lines_of, four_of, numbers_of}
use Rattle.std.specs.Prelude.{Ok}
use Rattle.lines.proofs.Rows.{lines_long}
use Rattle.obstacles.specs.Obstacles.{lines}
use Rattle.obstacles.specs.Read.{blank_numbers, answer_as}
use Rattle.lines.proofs.Numbers.{numbers-back, stored-drop}

drop-replicate : {A : Type 0} (k n : ℕ) (x : A) → drop k (replicate n x) ≡ replicate (n - k) x
drop-replicate zero n x =
    let e : n ≡ n - 0 = omega arith in
    ap (λ (m : ℕ). replicate m x) e
drop-replicate (suc k) zero x =
    let e : 0 ≡ 0 - suc k = omega arith in
    ap (λ (m : ℕ). replicate m x) e
drop-replicate (suc k) (suc n) x =
    let e : n - k ≡ suc n - suc k = omega arith in
    drop-replicate k n x ∙ ap (λ (m : ℕ). replicate m x) e

-- the first n lines stand in the numbers, and the rest is as it was
pub record Filled (n : ℕ) (b : List Float) : Type 0 where
  pub size : length b ≡ 256
  pub rest : drop (4 * n) b ≡ drop (4 * n) blank_numbers

pub blank-long : (b : List Float) → b ≡ blank_numbers → length b ≡ 256
unfolding blank_numbers
blank-long b e = rw e

pub filled_none : (b : List Float) → b ≡ blank_numbers → Filled 0 b
filled_none b e = record { size = blank-long b e; rest = e }

pub filled_next : (b : List Float) (n : ℕ) (l : Line) → n < 64 → Filled n b → Filled (n + 1) (sets b (4 * n) (four_of l))
filled_next b n l h f = record {
  size = length-sets b (4 * n) (four_of l) ∙ f.size;
  rest =
      let k : 4 * n + 4 ≡ 4 * (n + 1) = omega arith in
      stored-drop b n l (omega (arith, f.size)) ∙ ap (λ (x : List Float). drop 4 x) f.rest
      ∙ drop-drop 4 (4 * n) blank_numbers ∙ ap (λ (i : ℕ). drop i blank_numbers) k;
}

pub filled-answer : (b : List Float) (n : ℕ) → n ≤ 64 → Filled n b →
    Ok (record { lines = b; count = n }) ≡ answer_as (lines (lines_of (take (4 * n) b)))
unfolding blank_numbers
filled-answer b n h f =
    let front : length (take (4 * n) b) ≡ 4 * n = length-take-le (4 * n) b (omega (arith, f.size)) in
    let many : length (lines_of (take (4 * n) b)) ≡ n = lines_long (take (4 * n) b) ∙ rw front (omega arith) in
    let same : numbers_of (lines_of (take (4 * n) b)) ≡ take (4 * n) b = numbers-back (take (4 * n) b) (rw front (omega arith)) in
    let whole : take (4 * n) b ++ replicate (256 - 4 * n) 0ᶠ ≡ b =
    rw (← drop-replicate (4 * n) 256 0ᶠ, ← f.rest) (take-append-drop (4 * n) b) in
    rw (many, same, whole)
