-- Laws of `walk`: in two parts, turn by turn as a loop takes it, what each step keeps, and one walk told as another.
-- Assumes nothing.
use Prim.Native.Nat.{ℕ, suc, ◌+◌, ◌≤◌, ◌<◌}
use mathlib.Core.Path.{◌≡◌, refl, ◌∙◌, ap}
use mathlib.Core.List.{List, [], ◌∷◌, ◌++◌, append_assoc, append-nil}
use native.Mathlib.Numerals.{add-one}
use lib.ListN.{length, take, drop, get_or, drop_of_length-le}
use lib.Seq.{append_snoc, drop-cons}
use Rattle.arithmetic.proofs.Lists.{All, all_snoc, none, more}
use Rattle.pass_2d.specs.Walk.{walk}
use Rattle.lines.proofs.Fold.{take_next}

module _ {A S : Type 0} where
  -- in two parts
  pub walk-append : (step : List A → A → S → S) (e l m : List A) (s : S) → walk step e (l ++ m) s
      ≡ walk step (e ++ l) m (walk step e l s)
  walk-append step e [] m s = rw append-nil refl
  walk-append step e (x ∷ xs) m s = walk-append step (e ++ (x ∷ [])) xs m (step e x s) ∙ rw append_assoc refl

  -- a state that no step changes
  pub walk-stays : (step : List A → A → S → S) (s : S) → ((e : List A) (x : A) → step e x s ≡ s) → (e l : List A) →
      walk step e l s ≡ s
  walk-stays step s h e [] = refl
  walk-stays step s h e (x ∷ xs) = rw (h e x) (walk-stays step s h (e ++ (x ∷ [])) xs)

  -- what grows with the elements passed
  pub walk-grows : (step : List A → A → S → S) (P : List A → S → Type 0) →
      ((e : List A) (x : A) (s : S) → P e s → P (e ++ (x ∷ [])) (step e x s)) →
      (e l : List A) (s : S) → P e s → P (e ++ l) (walk step e l s)
  walk-grows step P h e [] s p = rw append-nil p
  walk-grows step P h e (x ∷ xs) s p = rw (← append_snoc e x xs) (walk-grows step P h (e ++ (x ∷ [])) xs (step e x s) (h e x s p))

  -- what each step keeps, the walk keeps
  pub walk-keeps : (step : List A → A → S → S) (P : S → Type 0) → ((e : List A) (x : A) (s : S) → P s → P (step e x s))
      → (e l : List A) (s : S) → P s → P (walk step e l s)
  walk-keeps step P = walk-grows step (λ e s. P s)

  -- and where the steps ask that every element has Q
  pub walk-keeps-over : (step : List A → A → S → S) (Q : A → Type 0) (P : S → Type 0) →
      ((e : List A) (x : A) (s : S) → All Q e → Q x → P s → P (step e x s)) →
      {e l : List A} (s : S) → All Q e → All Q l → P s → P (walk step e l s)
  walk-keeps-over step Q P h {e = e} s earlier none p = p
  walk-keeps-over step Q P h {e = e} s earlier (more {x} q qs) p =
      walk-keeps-over step Q P h {e = e ++ (x ∷ [])} (step e x s) (all_snoc earlier q) qs (h e x s earlier q p)

  -- where each step goes through g, the walk does
  pub walk_through : {T : Type 0} (step : List A → A → S → S) (other : List A → A → T → T) (g : S → T) →
      ((e : List A) (x : A) (s : S) → other e x (g s) ≡ g (step e x s)) →
      (e l : List A) (s : S) → walk other e l (g s) ≡ g (walk step e l s)
  walk_through step other g h e [] s = refl
  walk_through step other g h e (x ∷ xs) s = rw (h e x s) (walk_through step other g h (e ++ (x ∷ [])) xs (step e x s))

-- a walk over a list from the i-th element on: one turn, a turn that ends it, and no turn left
module _ {A S : Type 0} (step : List A → A → S → S) (l : List A) (i : ℕ) where
  pub walk-on : (d : A) {s t : S} → i < length l → step (take i l) (get_or l i d) s ≡ t →
      walk step (take i l) (drop i l) s ≡ walk step (take (i + 1) l) (drop (i + 1) l) t
  walk-on d {s} {t} h e =
      rw (drop-cons l i d h, take_next l i h d, add-one)
      (ap (λ (x : S). walk step (take i l ++ (get_or l i d ∷ [])) (drop (suc i) l) x) e)

  pub walk-stop : (d : A) {s t : S} → i < length l → step (take i l) (get_or l i d) s ≡ t →
      ((e : List A) (x : A) → step e x t ≡ t) → walk step (take i l) (drop i l) s ≡ t
  walk-stop d {s} {t} h e stays = walk-on d h e ∙ walk-stays step t stays (take (i + 1) l) (drop (i + 1) l)

  pub walk-done : {s : S} → length l ≤ i → walk step (take i l) (drop i l) s ≡ s
  walk-done h = rw (drop_of_length-le l h)
