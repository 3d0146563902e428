-- What the types of the code say, in 01's values and numbers, and back. Definitions only. Assumes nothing.
use Rattle.std.specs.Prelude.{ℕ, Option, Some, None, Result, Ok, Err}
use Rattle.admission.specs.declared.refusal.Refusal.{Refusal}
use Rattle.admission.specs.Refusals.{number_of, refusal_of}
use Rattle.lines.specs.declared.Line.{Line}
use Rattle.relaxation.specs.declared.LinearProgram3D.{LinearProgram3D}
use Rattle.relaxation.specs.Relax.{Tight, kept, skipped, Relaxed, relaxed, relax_refused}

abbrev pub tight_of : Option Line → Tight
tight_of (Some l) = kept l
tight_of None = skipped

abbrev pub relaxed_of : Result LinearProgram3D Refusal → Relaxed
relaxed_of (Ok s) = relaxed s.point s.penetration s.probes
relaxed_of (Err r) = relax_refused (number_of r)

-- the probes that relaxation counts
abbrev pub counted_of : Result LinearProgram3D Refusal → ℕ
counted_of (Ok s) = s.probes
counted_of (Err r) = 0

-- ---- and back

abbrev pub relaxed_as : Relaxed → Result LinearProgram3D Refusal
relaxed_as (relaxed p depth n) = Ok (record { point = p; penetration = depth; probes = n })
relaxed_as (relax_refused r) = Err (refusal_of r)
