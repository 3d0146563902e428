-- A magnitude is at most a bound exactly where the number lies between the bound with its sign turned and the bound.
-- Assumes nothing.
use mathlib.Core.Path.{◌≡◌, refl, subst}
use mathlib.Core.Bool.{Bool, true, false, not, ◌&&◌, ◌||◌}
use Prim.Native.Nat.{ℕ, zero, suc, ◌+◌, ◌*◌, ◌≤◌, ◌<◌}
use native.Mathlib.Nat.{lt_of_not-le, eq-or-lt_of_le}
use native.Mathlib.Decide.{dec_le}
use native.Mathlib.Omega.{arith}
use mathlib.Core.Logic.{◌⊎◌, inl, inr}
use lib.Ieee.{Float, nan, inf, fin, up, down, le, neg, below, level}
use borrow.Author.Tests.{lt-ltb, le-ltb, eq-eqb, ne_eqb}
use Rattle.arithmetic.specs.Ends.{abs_of}

-- ±a ≤ ±c
abbrev up_to : Bool → ℕ → Bool → ℕ → Bool
up_to s a t c = below s a t c || level s a t c

-- a ≤ ±c exactly where ±a lies between the two that ±c and its turned sign make
abbrev Both : ℕ → ℕ → Type 0
Both a c = (s t : Bool) → up_to false a t c ≡ (up_to (not t) c s a && up_to s a t c)

less : (a c : ℕ) → a < c → Both a c
less a c h false false = simp (lt-ltb a c h, lt-ltb 0 (c + a) (omega arith))
less a c h true false = simp (lt-ltb a c h, lt-ltb 0 (a + c) (omega arith))
less a c h false true = simp (le-ltb c a (omega arith), ne_eqb a c (λ e. omega arith), ne_eqb c a (λ e. omega arith))
less a c h true true = simp (le-ltb c a (omega arith), ne_eqb a c (λ e. omega arith), ne_eqb c a (λ e. omega arith))

more : (a c : ℕ) → c < a → Both a c
more a c h false false =
    simp (le-ltb a c (omega arith), ne_eqb a c (λ e. omega arith), ne_eqb c a (λ e. omega arith), lt-ltb 0 (c + a) (omega arith))
more a c h true false = simp (le-ltb a c (omega arith), ne_eqb a c (λ e. omega arith), ne_eqb c a (λ e. omega arith))
more a c h false true = simp (lt-ltb c a h, ne_eqb a c (λ e. omega arith))
more a c h true true = simp (lt-ltb c a h, ne_eqb a c (λ e. omega arith), ne_eqb c a (λ e. omega arith))

same : (a : ℕ) → Both a a
same zero false false = refl
same zero true false = refl
same zero false true = refl
same zero true true = refl
same (suc a) false false =
    simp (eq-eqb (suc a) (suc a) refl, le-ltb (suc a) (suc a) (omega arith), lt-ltb 0 (suc a + suc a) (omega arith))
same (suc a) true false =
    simp (eq-eqb (suc a) (suc a) refl, le-ltb (suc a) (suc a) (omega arith), lt-ltb 0 (suc a + suc a) (omega arith))
same (suc a) false true = simp (eq-eqb (suc a) (suc a) refl, le-ltb (suc a) (suc a) (omega arith))
same (suc a) true true =
    simp (eq-eqb (suc a) (suc a) refl, le-ltb (suc a) (suc a) (omega arith), ne_eqb (suc a) 0 (λ e. omega arith))

both : (a c : ℕ) → Both a c
both a c = go (dec_le a c)
  where
    go : Dec (a ≤ c) → Both a c
    go (no f) = more a c (lt_of_not-le f)
    go (yes h) = within (eq-or-lt_of_le h)
      where
        within : (a ≡ c) ⊎ (a < c) → Both a c
        within (inl e) = subst (λ (x : ℕ). Both a x) e (same a)
        within (inr l) = less a c l

pub abs-between : (b x : Float) → le (abs_of x) b ≡ (le (neg b) x && le x b)
unfolding le abs_of neg
abs-between nan nan = refl
abs-between nan (inf s) = refl
abs-between nan (fin s m e) = refl
abs-between (inf true) nan = refl
abs-between (inf false) nan = refl
abs-between (inf true) (inf true) = refl
abs-between (inf true) (inf false) = refl
abs-between (inf false) (inf true) = refl
abs-between (inf false) (inf false) = refl
abs-between (inf true) (fin s m e) = refl
abs-between (inf false) (fin s m e) = refl
abs-between (fin t n d) nan = refl
abs-between (fin t n d) (inf true) = refl
abs-between (fin t n d) (inf false) = refl
abs-between (fin t n d) (fin s m e) = both (m * up e * down d) (n * up d * down e) s t
