-- Laws of faults: no fault means that each rule passed, the order of telling can be regrouped, and two judgements that
-- one promise allows agree. Assumes nothing.
use Prim.Native.Nat.{ℕ}
use mathlib.Core.Path.{◌≡◌, refl, ap}
use mathlib.Core.Bool.{Bool, true, false}
use native.Mathlib.Omega.{arith}
use Rattle.arithmetic.specs.Binary32.{when◌then◌else◌}
use Rattle.arithmetic.proofs.Agree.{agree-read}
use Rattle.std.specs.Prelude.{Result, Ok, Err, ⊤}
use Rattle.std.specs.Result.{result_and}
use Rattle.admission.specs.declared.refusal.Refusal.{Refusal}
use Rattle.admission.specs.declared.refusal.Refusal.TheVariants as refusal
use Rattle.admission.specs.Refusals.{number_of, refusal_of}
use Rattle.admission.specs.Faults.{Fault, fine, fault, must, ◌⊳◌, unless_fault, fault_of, judged_as}

pub no-fault : (r : ℕ) → fine ≡ fault r → ⊥
no-fault r e = let z : ◌≡◌ {A = ℕ} 0 1 = cc in omega arith

pub ⊳-fine : (f : Fault) {g : Fault} → (f ⊳ g) ≡ fine → (f ≡ fine) × (g ≡ fine)
⊳-fine fine e = (refl, e)
⊳-fine (fault r) e = let z : ◌≡◌ {A = ℕ} 0 1 = cc in absurd (omega arith)

pub must-fine : (b : Bool) (r : ℕ) → must b r ≡ fine → b ≡ true
must-fine true r e = refl
must-fine false r e = let z : ◌≡◌ {A = ℕ} 0 1 = cc in absurd (omega arith)

pub ⊳-none : (f : Fault) → (f ⊳ fine) ≡ f
⊳-none fine = refl
⊳-none (fault r) = refl

pub ⊳-assoc : (f g h : Fault) → (f ⊳ (g ⊳ h)) ≡ ((f ⊳ g) ⊳ h)
⊳-assoc fine g h = refl
⊳-assoc (fault r) g h = refl

-- what the refusals and the rest have, the whole has; each side may use how the judgement came out
pub unless-case : {A : Type 0} (P : A → Type 0) (refuse : ℕ → A) (f : Fault) {a : A} → (f ≡ fine → P a) →
    ((r : ℕ) → f ≡ fault r → P (refuse r)) → P (unless_fault refuse f a)
unless-case P refuse fine h k = h refl
unless-case P refuse (fault r) h k = k r refl

-- a refusal is known by its number
pub refusal-back : (r : Refusal) → refusal_of (number_of r) ≡ r
unfolding when◌then◌else◌
refusal-back refusal.OtherVersion = refl
refusal-back refusal.MissingOrLeftOver = refl
refusal-back refusal.UnknownKind = refl
refusal-back refusal.TooMany = refl
refusal-back refusal.NoVertices = refl
refusal-back refusal.OutOfRange = refl
refusal-back refusal.OutOfBand = refl
refusal-back refusal.EndsCrossed = refl
refusal-back refusal.NotAdmitted = refl
refusal-back refusal.NoRoom = refl
refusal-back refusal.LosesNumbers = refl
refusal-back refusal.AnotherLog = refl
refusal-back refusal.NoSuchRecords = refl
refusal-back refusal.DoubledVertex = refl
refusal-back refusal.NoSuchLine = refl

pub told-and : (a b : Result ⊤ Refusal) → fault_of (result_and a b) ≡ (fault_of a ⊳ fault_of b)
told-and (Ok tt) b = refl
told-and (Err r) b = refl

judged-back : (j : Result ⊤ Refusal) → judged_as (fault_of j) ≡ j
judged-back (Ok tt) = refl
judged-back (Err r) = ap Err (refusal-back r)

pub judgements-agree : {one other : Result ⊤ Refusal} {promised : Fault} → fault_of one ≡ promised → fault_of other ≡ promised → one ≡ other
judgements-agree = agree-read fault_of judged_as judged-back
