-- A walk each of whose steps takes a byte at least: as many steps as there are bytes are enough. Assumes nothing.
use Prim.Native.Nat.{ℕ, zero, suc, ◌≤◌}
use native.Mathlib.Omega.{arith}
use mathlib.Core.Path.{◌≡◌, refl, sym, ◌∙◌}
use mathlib.Core.List.{List}
use lib.ListN.{length, drop, length-drop}
use Rattle.kept.specs.Walks.{walk}

-- a step asks only for what lies behind a byte at least, and of no bytes it makes what stopping makes
module _ {S W : Type 0} (step : (S → List ℕ → W) → S → List ℕ → W) (stop : S → W)
    (behind : (f g : S → List ℕ → W) (s : S) (l : List ℕ) →
    ((t : S) (k : ℕ) → 1 ≤ k → k ≤ length l → f t (drop k l) ≡ g t (drop k l)) → step f s l ≡ step g s l)
    (none : (f : S → List ℕ → W) (s : S) (l : List ℕ) → length l ≤ 0 → step f s l ≡ stop s) where
  enough : (n m : ℕ) (s : S) (l : List ℕ) → length l ≤ n → length l ≤ m → walk step stop n s l ≡ walk step stop m s l
  unfolding walk
  enough zero zero s l h k = refl
  enough zero (suc m) s l h k = sym (none (walk step stop m) s l h)
  enough (suc n) zero s l h k = none (walk step stop n) s l k
  enough (suc n) (suc m) s l h k =
      behind (walk step stop n) (walk step stop m) s l
      (λ t j a c. enough n m t (drop j l) (rw length-drop (omega arith)) (rw length-drop (omega arith)))

  -- The walk is a step, and the walk on what lies behind it.
  pub walk-on : (s : S) (l : List ℕ) → walk step stop (length l) s l ≡ step (λ t r. walk step stop (length r) t r) s l
  unfolding walk
  walk-on s l =
      enough (length l) (suc (length l)) s l (omega arith) (omega arith)
      ∙ behind (walk step stop (length l)) (λ t r. walk step stop (length r) t r) s l
      (λ t j a c. enough (length l) (length (drop j l)) t (drop j l) (rw length-drop (omega arith)) (omega arith))
