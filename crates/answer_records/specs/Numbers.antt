-- What a result tells in 01's numbers: a refusal by its own. Definitions only. Assumes nothing.
use Rattle.std.specs.Prelude.{ℕ, Result, Ok, Err}
use Rattle.admission.specs.declared.refusal.Refusal.{Refusal}
use Rattle.admission.specs.Refusals.{number_of, refusal_of}

abbrev pub numbered : {A : Type 0} → Result A Refusal → Result A ℕ
numbered (Ok a) = Ok a
numbered (Err r) = Err (number_of r)

-- the result that tells it
abbrev pub unnumbered : {A : Type 0} → Result A ℕ → Result A Refusal
unnumbered (Ok a) = Ok a
unnumbered (Err n) = Err (refusal_of n)
