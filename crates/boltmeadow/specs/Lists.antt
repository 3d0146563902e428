-- How a list stands, as a C caller is told. Definitions only. Assumes nothing.
use Rattle.std.specs.Prelude.{ℕ, Float, Option}
use Rattle.arithmetic.specs.Binary32.{0ᶠ}
use Rattle.linear_programming.specs.declared.Phase.{Phase}
use Rattle.linear_programming.specs.declared.Phase.TheVariants as phase
use Rattle.linear_programming.specs.Whole.{Outcome, stands, refusal}
use Rattle.linear_programming.specs.Read.{phase_as, failed_as}
use Rattle.pass_2d.specs.declared.Failure.{Failure}
use Rattle.plain_numbers.specs.Kinds.{failed_kind, failed_index, failed_cause}
use Rattle.boltmeadow.specs.declared.lists.BmStanding.{BmStanding}

-- the failed line by its plain numbers
unfoldable pub standing_with : ℕ → Float → Float → Float → Option Failure → ℕ → BmStanding
standing_with phase x y penetration f n = record {
  refusal = 0;
  phase = phase;
  x = x;
  y = y;
  penetration = penetration;
  cause = failed_kind f;
  failed_line = failed_index f;
  cause_line = failed_cause f;
  probes = n;
}

-- 0 solving, 1 relaxing, 2 a rigid failure, whose line is the failed one; no penetration but where lines are relaxed
unfoldable pub standing_by : Phase → Option Failure → ℕ → BmStanding
standing_by (phase.Solving p) f n = standing_with 0 p.x p.y 0ᶠ f n
standing_by (phase.Relaxing p depth) f n = standing_with 1 p.x p.y depth f n
standing_by (phase.RigidFailure k p) f n = standing_with 2 p.x p.y 0ᶠ f n

-- the number alone
unfoldable pub refused_list : ℕ → BmStanding
refused_list number = record {
  refusal = number;
  phase = 0;
  x = 0ᶠ;
  y = 0ᶠ;
  penetration = 0ᶠ;
  cause = 0;
  failed_line = 0;
  cause_line = 0;
  probes = 0;
}

-- how the list stands by the definition; or its refusal's number
abbrev pub standing_told : Outcome → BmStanding
standing_told (stands p f n) = standing_by (phase_as p) (failed_as f) n
standing_told (refusal r) = refused_list r
