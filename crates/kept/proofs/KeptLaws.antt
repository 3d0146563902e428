-- Where bytes are kept, and that a read behind them leaves them. Assumes nothing.
use Prim.Native.Nat.{ℕ, ◌-◌, ◌≤◌}
use native.Mathlib.Omega.{arith}
use native.Mathlib.Nat.{zero-add}
use mathlib.Core.Path.{◌≡◌, ap, ◌∙◌}
use mathlib.Core.List.{List, ◌++◌}
use lib.ListN.{length, take, drop}
use lib.Seq.{take_all, take-append-le, length-take-le}
use borrow.Rule.Slice.PartMut.{post_of, put_mid}
use borrow.Author.Tests.{le-ltb}
use Rattle.arithmetic.specs.Binary32.{when◌then◌else◌}
use Rattle.std.specs.List.{copy_within}
use Rattle.kept.specs.Kept.{kept, shifted, kept_over}

-- a copy to the start
pub copied : (from end : ℕ) (l : List ℕ) → copy_within l from end 0 ≡ shifted from (end - from) l
copied from end l = ap (λ (k : ℕ). take (end - from) (drop from l) ++ drop k l) (zero-add (end - from))

-- the places of a buffer
pub kept_there : (from end : ℕ) (l : List ℕ) → from ≤ end → end ≤ length l → kept_over from end l
    ≡ kept (end - from) (shifted from (end - from) l)
unfolding kept_over when◌then◌else◌
kept_there from end l h k = rw (le-ltb end from h, le-ltb (length l) end k)

-- a read behind what is kept leaves it as it is
pub kept-stays : (n : ℕ) (l part : List ℕ) → n ≤ length l → take n (put_mid n (length l - n) l part) ≡ take n l
kept-stays n l part h = take-append-le n (take n l) (part ++ post_of n (length l - n) l)
    (rw (length-take-le n l h) (omega arith)) ∙ take_all n (take n l) (rw (length-take-le n l h) (omega arith))
