-- The numbers of a phase and of a failed line say that phase and that line. Assumes nothing.
use Prim.Native.Nat.{ℕ}
use mathlib.Core.Path.{◌≡◌, refl}
use Rattle.std.specs.Prelude.{Option, Some, None}
use Rattle.arithmetic.specs.Binary32.{when◌then◌else◌}
use Rattle.one_line.specs.declared.Cause.{Cause}
use Rattle.one_line.specs.declared.Cause.TheVariants as cause
use Rattle.pass_2d.specs.declared.Failure.{Failure}
use Rattle.plain_numbers.specs.Kinds.{cause_kind, cause_line, cause_in, failed_kind, failed_index, failed_cause, failed_in}

failure-back : (index : ℕ) (c : Cause) → failed_in (cause_kind c) index (cause_line c)
    ≡ Some (record { index = index; cause = c })
unfolding failed_in cause_in when◌then◌else◌
failure-back index cause.Circle = refl
failure-back index (cause.Parallel k) = refl
failure-back index (cause.Crossing k) = refl

pub failed-back : (f : Option Failure) → failed_in (failed_kind f) (failed_index f) (failed_cause f) ≡ f
unfolding failed_in when◌then◌else◌
failed-back None = refl
failed-back (Some f) = failure-back f.index f.cause
