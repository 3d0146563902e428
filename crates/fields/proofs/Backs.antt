-- What stands as the bytes of a value is read to that value. Assumes nothing.
use Prim.Native.Nat.{ℕ, ◌+◌, ◌-◌, ◌≤◌, ◌<◌, ◌^◌}
use native.Mathlib.Omega.{arith}
use mathlib.Core.Path.{◌≡◌, refl, sym, ap, ◌∙◌}
use mathlib.Core.List.{List, [], ◌∷◌, ◌++◌, append_assoc}
use lib.ListN.{length, take, drop, length-drop, length-append}
use lib.Seq.{drop-drop, take_at, drop_at}
use borrow.Author.Tests.{le-leb}
use Rattle.fields.specs.Bytes.{big_endian, each}
use Rattle.fields.specs.Got.{Got, got, word, many}
use Rattle.fields.proofs.ByteLaws.{number-of-bytes, length-big-endian}

-- the step gives v, and r is what is left behind it
pub record Back {A : Type 0} (s : List ℕ) (g : Got A) (v : A) (r : List ℕ) : Type 0 where
  pub place : ℕ
  pub gives : g ≡ got v place
  pub bound : place ≤ length s
  pub left : drop place s ≡ r

pub taking : {A C : Type 0} {s : List ℕ} {g : Got A} {v : A} {r : List ℕ} → Back s g v r →
    ((m : ℕ) → g ≡ got v m → m ≤ length s → drop m s ≡ r → C) → C
taking b k = k b.place b.gives b.bound b.left

pub word_back : (s : List ℕ) (w at x : ℕ) (r : List ℕ) → 0 < w → x < 256 ^ w → drop at s ≡ big_endian w x ++ r →
    Back s (word w s at) x r
unfolding word
word_back s w at x r p h e =
    let l : length s - at ≡ w + length r = sym (length-drop at s) ∙ ap length e ∙ length-append (big_endian w x) r
    ∙ ap (λ (k : ℕ). k + length r) (length-big-endian w x) in
    let b : at + w ≤ length s = omega arith in
    let t : take w (drop at s) ≡ big_endian w x = ap (take w) e ∙ take_at (big_endian w x) r w (length-big-endian w x) in
    let d : drop (at + w) s ≡ r = sym (drop-drop w at s) ∙ ap (drop w) e ∙ drop_at (big_endian w x) r w (length-big-endian w x) in
    record { place = at + w; gives = rw (le-leb (at + w) (length s) b, t, number-of-bytes w x h); bound = b; left = d }

-- each in its turn, with the state that those before it left
abbrev pub Every : {A S : Type 0} → (S → A → Type 0) → (S → A → S) → S → List A → Type 0
Every P on state [] = Unit
Every P on state (a ∷ l) = P state a × Every P on (on state a) l

pub many-back : {A S : Type 0} (s : List ℕ) (step : S → ℕ → Got A) (on : S → A → S) (bytes : A → List ℕ) (P : S → A → Type 0)
    → ((state : S) (at : ℕ) (a : A) (r : List ℕ) → P state a → drop at s ≡ bytes a ++ r → Back s (step state at) a r)
    → (vs : List A) (state : S) (at : ℕ) (r : List ℕ) → at ≤ length s → Every P on state vs →
    drop at s ≡ each bytes vs ++ r → Back s (many step on (length vs) state at) vs r
unfolding many each
many-back s step on bytes P one [] state at r b ok e = record { place = at; gives = refl; bound = b; left = e }
many-back s step on bytes P one (a ∷ vs) state at r b ok e =
    taking (one state at a _ ok.0 (rw append_assoc at e)) λ p1 g1 i1 l1.
    taking (many-back s step on bytes P one vs (on state a) p1 r i1 ok.1 l1) λ p2 g2 i2 l2.
    record { place = p2; gives = rw (g1, g2); bound = i2; left = l2 }
