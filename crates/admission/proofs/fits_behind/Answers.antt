-- `admission::fits_behind` meets its contract. Assumes nothing.
use Prim.Native.Nat.{ℕ, ◌+◌, ◌-◌, ◌≤◌, ◌<◌}
use mathlib.Core.Path.{◌≡◌, refl, sym, ◌∙◌}
use mathlib.Core.Bool.{Bool, true, false}
use native.Mathlib.Omega.{arith}
use lib.Dec.{leb}
use borrow.Author.Tests.{leb-true, leb-false, le-leb, lt-leb}
use Rattle.admission.proofs.fits_behind.Goals as goal

-- as many as n are left from a place on, of so many
left_over : (at n size : ℕ) → at ≤ size → leb n (size - at) ≡ leb (at + n) size
left_over at n size h = go (leb (at + n) size) refl
  where
    go : (b : Bool) → leb (at + n) size ≡ b → leb n (size - at) ≡ leb (at + n) size
    go true e = let f : at + n ≤ size = leb-true (at + n) size e in le-leb n (size - at) (omega arith) ∙ sym e
    go false e = let f : size < at + n = leb-false (at + n) size e in lt-leb n (size - at) (omega arith) ∙ sym e

pub returns-then-before-most : goal.returns-then-before-most
returns-then-before-most c = let a = c.args in sym (lt-leb (a.before + a.more) a.most (omega arith))

pub returns : goal.returns
returns c = let a = c.args in left_over a.before a.more a.most c.if-before-most.false
