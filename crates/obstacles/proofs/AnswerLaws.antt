-- A refusal that the answer is, and the number that it is told with. Assumes nothing.
use Prim.Native.Nat.{ℕ}
use mathlib.Core.Path.{◌≡◌, refl}
use Rattle.std.specs.Prelude.{Err}
use Rattle.arithmetic.specs.Binary32.{when◌then◌else◌}
use Rattle.admission.specs.declared.refusal.Refusal.{Refusal}
use Rattle.admission.specs.Refusals.{number_of}
use Rattle.admission.proofs.FaultLaws.{refusal-back}
use Rattle.obstacles.specs.Obstacles.{Answer, lines, refused}
use Rattle.obstacles.specs.Read.{answer_as, told_of, fault_in}
use Rattle.obstacles.proofs.EdgesInOrder.{FewAdmitted, refuses, few-admitted}

pub refused-answer : (r : Refusal) {a : Answer} → refused (number_of r) ≡ a → Err r ≡ answer_as a
refused-answer r e = rw (← e, refusal-back r)

-- an obstacle's lines are refused with 9 alone, which is told as it is
pub told-answer : {n : ℕ} (a : Answer) → FewAdmitted n a → told_of (answer_as a) ≡ fault_in a
unfolding when◌then◌else◌
told-answer (refused r) (refuses e) = rw e
told-answer (lines ls) (few-admitted few all) = refl

pub ruleset refusals = (refusal-back)
