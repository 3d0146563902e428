-- What a chain of steps that ended well tells of its steps. Assumes nothing.
use Prim.Native.Nat.{ℕ, zero, suc}
use native.Mathlib.Omega.{arith}
use mathlib.Core.Path.{◌≡◌, refl, sym, ap, ◌∙◌}
use mathlib.Core.Bool.{Bool, true, false}
use mathlib.Core.List.{List, ◌∷◌}
use lib.ListN.{length}
use Rattle.fields.specs.Got.{Got, refused, got, then, guard, many}

-- a refusal is no value
pub apart : {A C : Type 0} (e : ℕ) (a : A) (n : ℕ) → refused e ≡ got a n → C
apart {A} e a n p = absurd (let z : ◌≡◌ {A = ℕ} 0 1 = cc in omega arith)

pub got_same : {A : Type 0} {a b : A} {m n : ℕ} → got a m ≡ got b n → (a ≡ b) × (m ≡ n)
got_same p = (cc, cc)

-- what follows of a chain that ended well, from what its first step gave
pub then-got : {A B C : Type 0} (g : Got A) (k : A → ℕ → Got B) {b : B} {n : ℕ} → then g k ≡ got b n →
    ((a : A) (m : ℕ) → g ≡ got a m → k a m ≡ got b n → C) → C
then-got (refused e) k {b} {n} p f = apart e b n p
then-got (got a m) k p f = f a m refl p

pub guard-got : {A C : Type 0} (t : Bool) (e : ℕ) (g : Got A) {a : A} {n : ℕ} → guard t e g ≡ got a n →
    (t ≡ true → g ≡ got a n → C) → C
guard-got true e g p f = f refl p
guard-got false e g {a} {n} p f = apart e a n p

-- the first of the values, and the rest
pub cons-got : {A C : Type 0} (a : A) (g : Got (List A)) {vs : List A} {m : ℕ} → then g (λ ws l. got (a ∷ ws) l)
    ≡ got vs m → ((ws : List A) → g ≡ got ws m → vs ≡ a ∷ ws → C) → C
cons-got a (refused e) {vs} {m} p f = apart e vs m p
cons-got a (got ws l) p f = f ws (ap (λ (k : ℕ). got ws k) (got_same p).1) (sym (got_same p).0)

-- n steps give n values
pub many-length : {A S : Type 0} (p : S → ℕ → Got A) (f : S → A → S) (n : ℕ) (st : S) (at : ℕ) (vs : List A) (m : ℕ) →
    many p f n st at ≡ got vs m → length vs ≡ n
unfolding many
many-length p f zero st at vs m e = ap length (sym (got_same e).0)
many-length p f (suc n) st at vs m e =
    then-got (p st at) _ e λ a k q r.
    cons-got a (many p f n (f st a) k) r λ ws t u.
    ap length u ∙ ap suc (many-length p f n (f st a) k ws m t)
