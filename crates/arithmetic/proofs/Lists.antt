-- What holds of each element of a list, and of the lists made from it: each proof goes down the list. Assumes nothing.
use Prim.Native.Nat.{ℕ, zero, suc}
use mathlib.Core.List.{List, [], ◌∷◌, ◌++◌}
use lib.ListN.{take, drop}

-- P holds of each element
pub data All {A : Type 0} (P : A → Type 0) : List A → Type 0 where
  none : All P []
  more : {x : A} {xs : List A} → P x → All P xs → All P (x ∷ xs)

pub all_snoc : {A : Type 0} {P : A → Type 0} {l : List A} {x : A} → All P l → P x → All P (l ++ (x ∷ []))
all_snoc none h = more h none
all_snoc (more g gs) h = more g (all_snoc gs h)

pub all_take : {A : Type 0} {P : A → Type 0} (n : ℕ) {l : List A} → All P l → All P (take n l)
all_take zero h = none
all_take (suc n) none = none
all_take (suc n) (more h hs) = more h (all_take n hs)

pub all_drop : {A : Type 0} {P : A → Type 0} (n : ℕ) {l : List A} → All P l → All P (drop n l)
all_drop zero h = h
all_drop (suc n) none = none
all_drop (suc n) (more h hs) = all_drop n hs

-- from P to Q, element by element
pub all_map : {A : Type 0} {P Q : A → Type 0} → ((x : A) → P x → Q x) → {l : List A} → All P l → All Q l
all_map f none = none
all_map f (more {x} h hs) = more (f x h) (all_map f hs)
