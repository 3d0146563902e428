-- `replay_edges::is_answer` meets its contract. Assumes nothing.
use Prim.Native.Nat.{ℕ, zero, suc, ◌*◌, ◌≤◌, ◌<◌}
use mathlib.Core.Path.{◌≡◌, refl, ◌∙◌}
use mathlib.Core.List.{List}
use native.Mathlib.Omega.{arith}
use lib.ListN.{length, take}
use lib.Seq.{length-take-le}
use lib.Ieee.{Float, nan}
use borrow.Author.Tests.{eq-eqb, le-leb}
use Rattle.std.proofs.lemmas.List.{get_or-take}
use Rattle.replay_edges.specs.EdgesSet.{are_numbers, is_answer, is_lines_or_refusal}
use Rattle.replay_edges.proofs.is_answer.Goals as goal

-- the first n numbers of a list are the first n of a longer part of it
taken : (s : List ℕ) (at : ℕ) (xs : List Float) (m n : ℕ) → n ≤ m → are_numbers s at (take m xs) n ≡ are_numbers s at xs n
unfolding are_numbers
taken s at xs m zero h = refl
taken s at xs m (suc n) h =
    let k : n < m = omega arith in
    rw (taken s at xs m n (omega arith), get_or-take m xs n nan k)

pub returns-then-answer-found : goal.returns-then-answer-found
unfolding is_answer is_lines_or_refusal
returns-then-answer-found c =
    let n = 4 * c.in-Ok.found.count in
    let long : length (take n c.in-Ok.found.lines) ≡ n = length-take-le n c.in-Ok.found.lines (omega arith) in
    let all = rw (long, taken _ _ c.in-Ok.found.lines n n (omega arith)) at c.are_numbers.ensures in
    all ∙ simp (c.in-Ok.is, le-leb _ _ c.if-found-gt-MOST.false, eq-eqb _ _ c.if-answer-found.true)
