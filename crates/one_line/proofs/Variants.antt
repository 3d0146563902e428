-- Which variant the answer of a one-line solve is where it is no other, and how many lines it looked at, at most.
-- Assumes nothing.
use Prim.Native.Nat.{ℕ, ◌+◌, ◌≤◌}
use mathlib.Core.Path.{◌≡◌, refl}
use mathlib.Core.List.{List}
use Rattle.std.specs.Prelude.{Result, Ok, Err}
use native.Mathlib.Omega.{arith}
use lib.ListN.{length}
use lib.Ieee.{Float}
use Rattle.common.specs.declared.Vec2.{Vec2}
use Rattle.lines.specs.declared.Line.{Line}
use Rattle.one_line.specs.declared.AlongLine.{AlongLine}
use Rattle.one_line.specs.declared.AlongLine.TheVariants as along-line
use Rattle.one_line.specs.declared.Cause.{Cause}
use Rattle.one_line.specs.declared.EndsCrossed.{EndsCrossed}
use Rattle.one_line.specs.OneLine.{Objective, one_line}
use Rattle.one_line.specs.Read.{found_of, looked_of}
use Rattle.one_line.proofs.OneLineLaws.{Solves, solves, stops, line-solves}

-- neither a point nor a failure
pub refuses-left : (a : Result AlongLine EndsCrossed) → ((p : Vec2) (n : ℕ) → a ≡ Ok (along-line.At p n) → ⊥) →
    ((n : ℕ) (c : Cause) → a ≡ Ok (along-line.Fails n c) → ⊥) → a ≡ Err (record {})
refuses-left (Ok (along-line.At p n)) h k = absurd (h p n refl)
refuses-left (Ok (along-line.Fails n c)) h k = absurd (k n c refl)
refuses-left (Err e) h k = refl

-- a one-line solve looks at no more lines than there are
pub looked-most : (o : Objective) (limit : Float) (own : Line) (e : List Line) (a : Result AlongLine EndsCrossed) →
    found_of a ≡ one_line o limit own e → looked_of a ≤ length e
looked-most o limit own e a h = most a (rw (← h) at (line-solves o limit own e))
  where
    most : (a : Result AlongLine EndsCrossed) → Solves (0 + length e) (found_of a) → looked_of a ≤ length e
    most (Ok (along-line.At p n)) solves = omega arith
    most (Ok (along-line.Fails n cause)) (stops l by) = omega arith
    most (Err e) s = omega arith
