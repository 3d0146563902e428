-- A walk over bytes, step by step. Definitions only. Assumes nothing.
use Rattle.std.specs.Prelude.{ℕ, zero, suc, List}

-- at most n steps: `step` is told how to go on behind what it takes, `stop` what it comes to where no step is left
unfoldable pub walk : {S W : Type 0} → ((S → List ℕ → W) → S → List ℕ → W) → (S → W) → ℕ → S → List ℕ → W
walk step stop zero s l = stop s
walk step stop (suc n) s l = step (walk step stop n) s l
