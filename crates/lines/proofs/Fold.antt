-- The first n elements of a list: what a loop over them has left from the i-th on, and an n beyond the end. Assumes nothing.
use Prim.Native.Nat.{ℕ, zero, suc, ◌+◌, ◌≤◌, ◌<◌, min}
use mathlib.Core.Path.{◌≡◌, refl, ◌∙◌, ap}
use mathlib.Core.List.{List, [], ◌∷◌, ◌++◌, foldl}
use native.Mathlib.Omega.{arith}
use native.Mathlib.Nat.{zero-min, min-zero, suc-min-suc}
use native.Mathlib.Numerals.{add-one}
use lib.ListN.{length, length-take, take, drop, get_or, set, drop_of_length-le}
use lib.Seq.{drop-cons, get_or-take, length-take-le, take-suc, take-suc-set}

module _ {A : Type 0} (l : List A) (n i : ℕ) (fits : n ≤ length l) where
  pub left-next : (d : A) → i < n → drop i (take n l) ≡ get_or l i d ∷ drop (i + 1) (take n l)
  left-next d h =
      let k : i < length (take n l) = rw (length-take-le n l fits) h in
      drop-cons (take n l) i d k ∙ rw (add-one, get_or-take n l i d h)

  pub left-none : n ≤ i → drop i (take n l) ≡ []
  left-none h =
      let k : length (take n l) ≤ i = rw (length-take-le n l fits) h in
      drop_of_length-le (take n l) k

module _ {A : Type 0} (l : List A) (i : ℕ) (h : i < length l) where
  pub take_next : (d : A) → take (i + 1) l ≡ take i l ++ (get_or l i d ∷ [])
  take_next d = rw add-one (take-suc l i d h)

  pub take_set_next : (a : A) → take (i + 1) (set l i a) ≡ take i l ++ (a ∷ [])
  take_set_next a = rw add-one (take-suc-set l i a h)

-- a count beyond the end of a list is its length
module _ {A : Type 0} where
  pub take-lesser : (i : ℕ) (l : List A) → take (min i (length l)) l ≡ take i l
  take-lesser zero l = rw zero-min
  take-lesser (suc i) [] = rw min-zero
  take-lesser (suc i) (x ∷ xs) = rw (suc-min-suc, take-lesser i xs)

  pub drop-lesser : (i : ℕ) (l : List A) → drop (min i (length l)) l ≡ drop i l
  drop-lesser zero l = rw zero-min
  drop-lesser (suc i) [] = rw min-zero
  drop-lesser (suc i) (x ∷ xs) = rw suc-min-suc (drop-lesser i xs)

  pub taken-most : (n : ℕ) (l : List A) {most : ℕ} → n ≤ most → length (take n l) ≤ most
  taken-most n l h = rw (length-take n l) (omega arith)

  -- so many elements as the first n of them are
  pub count-taken : (n : ℕ) (l : List A) {r : ℕ} → r ≡ length (take n l) → take r l ≡ take n l
  count-taken n l e = rw (e, length-take n l) (take-lesser n l)

-- a state that no step changes
pub fold_stays : {A S : Type 0} (f : S → A → S) (t : S) → ((x : A) → f t x ≡ t) → (l : List A) → foldl f t l ≡ t
fold_stays f t stays [] = refl
fold_stays f t stays (x ∷ xs) = rw (stays x) (fold_stays f t stays xs)

-- a fold over the first n elements, from the i-th on: one turn, a turn that ends it, and no turn left
module _ {A S : Type 0} (f : S → A → S) (l : List A) (n i : ℕ) (fits : n ≤ length l) where
  pub fold_on : (d : A) {s t : S} → i < n → f s (get_or l i d) ≡ t → foldl f s (drop i (take n l))
      ≡ foldl f t (drop (i + 1) (take n l))
  fold_on d {s} {t} h e = rw (left-next l n i fits d h) (ap (λ (x : S). foldl f x (drop (i + 1) (take n l))) e)

  pub fold-stop : (d : A) {s t : S} → i < n → f s (get_or l i d) ≡ t → ((x : A) → f t x ≡ t) → foldl f s (drop i (take n l)) ≡ t
  fold-stop d {s} {t} h e stays = fold_on d h e ∙ fold_stays f t stays (drop (i + 1) (take n l))

  pub fold_done : {s : S} → n ≤ i → foldl f s (drop i (take n l)) ≡ s
  fold_done h = rw (left-none l n i fits h)
