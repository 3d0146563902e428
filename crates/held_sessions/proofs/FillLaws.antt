-- A loop over the places of an array: one place more is filled, and all are. Assumes nothing.
use Prim.Native.Nat.{ℕ, ◌+◌, ◌<◌}
use mathlib.Core.Path.{◌≡◌, sym, ◌∙◌}
use mathlib.Core.List.{List}
use native.Mathlib.Omega.{arith}
use lib.ListN.{length, take, get_or, set}
use lib.Seq.{take_all}
use Rattle.lines.proofs.Fold.{take_next, take_set_next}

module _ {A : Type 0} (l m : List A) (i : ℕ) where
  pub filled_next : (d : A) {x : A} → i < length l → i < length m → take i l ≡ take i m → x ≡ get_or m i d →
      take (i + 1) (set l i x) ≡ take (i + 1) m
  filled_next d {x} h k e f = rw (take_set_next l i h x, take_next m i k d, e, f)

  pub filled : length l ≡ i → length m ≡ i → take i l ≡ take i m → l ≡ m
  filled p q e = sym (take_all i l (omega arith)) ∙ e ∙ take_all i m (omega arith)
