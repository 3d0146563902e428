-- Values that are read one behind the other and stored as numbers, w of them each: what a loop has stored and what is
-- left make up the whole. Assumes nothing.
use Prim.Native.Nat.{ℕ, suc, ◌+◌, ◌-◌, ◌≤◌, ◌<◌}
use native.Mathlib.Omega.{arith}
use mathlib.Core.Path.{◌≡◌, refl, ap, ◌∙◌}
use mathlib.Core.List.{List, ◌∷◌}
use lib.ListN.{length}
use lib.Seq.{sets}
use lib.Ieee.{Float}
use Rattle.fields.specs.Bytes.{each}
use Rattle.fields.proofs.StoreLaws.{sets-append}
use Rattle.fields.specs.Got.{Got, refused, got, then, many}
use Rattle.scene_records.specs.Parts.{stored}

module _ {A S : Type 0} (numbers : A → List Float) (w : ℕ) (long : (a : A) → length (numbers a) ≡ w) (step : S → ℕ →
    Got A) (on : S → A → S) where
  -- n steps of the same kind, each with the state that those before it left
  abbrev run : S → ℕ → ℕ → Got (List A)
  run state n at = many step on n state at

  pub stored-done : (all : List Float) (place : ℕ) (state : S) (n i at : ℕ) → n ≤ i →
      got all at ≡ stored numbers all place (run state (n - i) at)
  unfolding stored many each
  stored-done all place state n i at h = let e : n - i ≡ 0 = omega arith in rw e refl

  behind : (all : List Float) (place : ℕ) (a : A) (g : Got (List A)) →
      stored numbers all place (then g λ l k. got (a ∷ l) k) ≡ stored numbers (sets all place (numbers a)) (place + w) g
  unfolding stored each
  behind all place a (refused r) = refl
  behind all place a (got l k) =
      ap (λ (v : List Float). got v k) (sets-append all place (numbers a) (each numbers l) ∙ rw (long a))

  module _ (all : List Float) (place : ℕ) (state : S) (n i at : ℕ) (h : i < n) where
    more : n - i ≡ suc (n - (i + 1))
    more = omega arith

    pub stored_next : (all' : List Float) (place' : ℕ) (a : A) (m : ℕ) → got a m ≡ step state at
        → all' ≡ sets all place (numbers a) → place + w ≡ place'
        → stored numbers all place (run state (n - i) at)
        ≡ stored numbers all' place' (run (on state a) (n - (i + 1)) m)
    unfolding many
    stored_next all' place' a m e put next =
        rw (more, put, ← next, ← e) (behind all place a (run (on state a) (n - (i + 1)) m))

    pub stored-refused : (r : ℕ) → refused r ≡ step state at → stored numbers all place (run state (n - i) at) ≡ refused r
    unfolding many stored
    stored-refused r e = rw (more, ← e) refl
