-- Judgements one behind the other: the code goes on behind one that is fine, and ends at a refusal. Assumes nothing.
use Prim.Native.Nat.{ℕ, ◌+◌, ◌≤◌, ◌<◌}
use mathlib.Core.Path.{◌≡◌, refl}
use mathlib.Core.Bool.{Bool}
use mathlib.Core.List.{List}
use lib.ListN.{length, drop, get_or}
use lib.Seq.{drop-drop, get_or-drop}
use lib.Ieee.{Float, nan}
use Rattle.std.specs.Prelude.{Result, ⊤}
use Rattle.std.specs.Result.{IsErrAnd}
use Rattle.arithmetic.specs.Binary32.{finite}
use Rattle.admission.specs.declared.refusal.Refusal.{Refusal}
use Rattle.admission.specs.Refusals.{number_of}
use Rattle.admission.specs.Faults.{Fault, fine, fault, must, ◌⊳◌, within, inside, fault_of}
use Rattle.common.specs.Vectors.{vec, length_squared_of}
use Rattle.lines.specs.LineFaults.{line_reach, band_low, band_high}
use Rattle.obstacles.specs.ObstacleFaults.{number_fault}
use Rattle.obstacles.proofs.ObstacleFaults.{number-there, number-missing}
use Rattle.scene_records.proofs.Chains.{result-exit}
use Rattle.scene_writer.specs.Writing.{lent_line_fault, written, written_of}

pub first-told : (f g : Fault) (n : ℕ) → fault n ≡ f → (f ⊳ g) ≡ fault n
first-told f g n e = rw (← e) refl

pub second-told : (f g : Fault) → fine ≡ f → (f ⊳ g) ≡ g
second-told f g e = rw (← e) refl

-- what a `?` returns
pub judged-exit : (r : Result ⊤ Refusal) (e : Refusal) → IsErrAnd r (λ y. y ≡ e) → fault_of r ≡ fault (number_of e)
judged-exit r e h = rw (result-exit r e h) refl

pub written-exit : (r : Result ℕ Refusal) (e : Refusal) (l : List ℕ) → IsErrAnd r (λ y. y ≡ e) →
    written_of r l ≡ written (fault (number_of e)) 0 l
written-exit r e l h = rw (result-exit r e h) refl

pub ruleset judging = (first-told, second-told, judged-exit)

-- ---- a number that is lent, or not

module _ (passes : Float → Bool) (xs : List Float) (i : ℕ) where
  pub lent-missing : (n : ℕ) → (length xs ≤ i) × (n ≡ 2) → fault n ≡ number_fault passes (drop i xs)
  lent-missing n h = rw (number-missing passes xs i h.0, h.1) refl

  pub lent-judged : (f : Fault) (x : Float) (b : Bool) → (i < length xs) × (x ≡ get_or xs i nan) → b ≡ passes x →
      f ≡ must b 6 → f ≡ number_fault passes (drop i xs)
  lent-judged f x b h e told = rw (number-there passes xs i nan h.0, ← h.1, ← e) told

-- ---- a line, number by number

module _ (xs : List Float) (k : ℕ) where
  abbrev band : Fault
  band = must (inside band_low band_high (length_squared_of (vec (get_or xs (k + 2) nan) (get_or xs (k + 3) nan)))) 7

  spread : lent_line_fault (drop k xs) ≡ (number_fault (within line_reach) (drop k xs)
      ⊳ number_fault (within line_reach) (drop (k + 1) xs) ⊳ number_fault finite (drop (k + 2) xs)
      ⊳ number_fault finite (drop (k + 3) xs) ⊳ band)
  unfolding lent_line_fault
  spread = simp (drop-drop, get_or-drop)

  pub told-at_0 : (n : ℕ) → fault n ≡ number_fault (within line_reach) (drop k xs) → fault n ≡ lent_line_fault (drop k xs)
  told-at_0 n e = rw (spread, ← e) refl

  module _ (e0 : fine ≡ number_fault (within line_reach) (drop k xs)) where
    pub told-at_1 : (n : ℕ) → fault n ≡ number_fault (within line_reach) (drop (k + 1) xs) → fault n ≡ lent_line_fault (drop k xs)
    told-at_1 n e = rw (spread, ← e0, ← e) refl

    module _ (e1 : fine ≡ number_fault (within line_reach) (drop (k + 1) xs)) where
      pub told-at_2 : (n : ℕ) → fault n ≡ number_fault finite (drop (k + 2) xs) → fault n ≡ lent_line_fault (drop k xs)
      told-at_2 n e = rw (spread, ← e0, ← e1, ← e) refl

      module _ (e2 : fine ≡ number_fault finite (drop (k + 2) xs)) where
        pub told-at_3 : (n : ℕ) → fault n ≡ number_fault finite (drop (k + 3) xs) → fault n ≡ lent_line_fault (drop k xs)
        told-at_3 n e = rw (spread, ← e0, ← e1, ← e2, ← e) refl

        pub told-last : fine ≡ number_fault finite (drop (k + 3) xs) → (f : Fault) (x y z : Float) (b : Bool) →
            x ≡ get_or xs (k + 2) nan → y ≡ get_or xs (k + 3) nan → z ≡ length_squared_of (vec x y) →
            b ≡ inside band_low band_high z → f ≡ must b 7 → f ≡ lent_line_fault (drop k xs)
        told-last e3 f x y z b ex ey ez eb told = rw (spread, ← e0, ← e1, ← e2, ← e3, ← ex, ← ey, ← ez, ← eb) told
