-- The refusals with the numbers 1 to 10, and 14, have these numbers. Assumes nothing.
use Rattle.std.proofs.Common.{◌≡◌, ℕ, zero, suc, ◌≤◌, refl, arith}
use Rattle.arithmetic.specs.Binary32.{when◌then◌else◌}
use Rattle.admission.specs.Refusals.{number_of, refusal_of}

pub few-back : (r : ℕ) → 1 ≤ r → r ≤ 10 → number_of (refusal_of r) ≡ r
unfolding when◌then◌else◌
few-back zero low high = absurd (omega arith)
few-back (suc zero) low high = refl
few-back (suc (suc zero)) low high = refl
few-back (suc (suc (suc zero))) low high = refl
few-back (suc (suc (suc (suc zero)))) low high = refl
few-back (suc (suc (suc (suc (suc zero))))) low high = refl
few-back (suc (suc (suc (suc (suc (suc zero)))))) low high = refl
few-back (suc (suc (suc (suc (suc (suc (suc zero))))))) low high = refl
few-back (suc (suc (suc (suc (suc (suc (suc (suc zero)))))))) low high = refl
few-back (suc (suc (suc (suc (suc (suc (suc (suc (suc zero))))))))) low high = refl
few-back (suc (suc (suc (suc (suc (suc (suc (suc (suc (suc zero)))))))))) low high = refl
few-back (suc (suc (suc (suc (suc (suc (suc (suc (suc (suc (suc n))))))))))) low high = absurd (omega arith)

pub doubled-back : number_of (refusal_of 14) ≡ 14
unfolding when◌then◌else◌
doubled-back = refl
