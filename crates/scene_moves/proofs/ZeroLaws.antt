-- Whether the numbers of a list are all 0. Assumes nothing.
use Prim.Native.Nat.{ℕ}
use mathlib.Core.Path.{◌≡◌, refl}
use mathlib.Core.List.{List, [], ◌∷◌}
use lib.Dec.{eqb}
use Rattle.std.specs.List.{list_all}
use Rattle.scene_moves.specs.Moves.{all_zero}

pub zero_all : (l : List ℕ) → list_all (λ n. eqb n 0) l ≡ all_zero l
unfolding all_zero
zero_all [] = refl
zero_all (n ∷ l) = rw (zero_all l) refl
