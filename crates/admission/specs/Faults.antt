-- 01, "Refusal numbers": "The first fault in this order is told." Definitions only. Assumes nothing.
use Rattle.std.specs.Prelude.{ℕ, ◌+◌, Bool, true, false, ◌&&◌, leb, Float, Result, Ok, Err, ⊤}
use Rattle.arithmetic.specs.Binary32.{◌≤ᶠ◌}
use Rattle.arithmetic.specs.Ends.{abs_of}
use Rattle.admission.specs.declared.refusal.Refusal.{Refusal}
use Rattle.admission.specs.Refusals.{number_of, refusal_of}

pub data Fault : Type 0 where
  fine : Fault
  fault : ℕ → Fault

infixr 20 ◌⊳◌
-- the rule passes, or the number is told
abbrev pub must : Bool → ℕ → Fault
must true r = fine
must false r = fault r

-- the left one first
abbrev pub ◌⊳◌ : Fault → Fault → Fault
fine ⊳ f = f
fault r ⊳ f = fault r

-- what there is without a fault, or a refusal with its number
abbrev pub unless_fault : {A : Type 0} → (ℕ → A) → Fault → A → A
unless_fault refuse fine a = a
unless_fault refuse (fault r) a = refuse r

-- "Ends are admitted"; a NaN is not, nor an infinity where the bound is finite
unfoldable pub within : Float → Float → Bool
within bound x = abs_of x ≤ᶠ bound

-- from low to high, both admitted
unfoldable pub inside : Float → Float → Float → Bool
inside low high x = low ≤ᶠ x && x ≤ᶠ high

-- as many as `more` behind those before are not over the limit, or not past the end
abbrev pub fits_behind : ℕ → ℕ → ℕ → Bool
fits_behind most before more = leb (before + more) most

-- the same over whatever tells a fault: the rule passes, or the fault is told; the first of two is
abbrev pub unless : {E : Type 0} → Bool → E → Result ⊤ E
unless true e = Ok tt
unless false e = Err e

abbrev pub first_told : {E : Type 0} → Result ⊤ E → Result ⊤ E → Result ⊤ E
first_told (Ok _) second = second
first_told (Err e) second = Err e

-- what a judgement of the code says, in 01's numbers, and the judgement that says it
abbrev pub fault_of : Result ⊤ Refusal → Fault
fault_of (Ok _) = fine
fault_of (Err r) = fault (number_of r)

abbrev pub judged_as : Fault → Result ⊤ Refusal
judged_as fine = Ok tt
judged_as (fault n) = Err (refusal_of n)
