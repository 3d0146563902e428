-- Lines that a point strictly meets (02, T-13): which line of a batch is the first that it does not. Definitions only.
-- Assumes nothing.
use Rattle.std.specs.Prelude.{ℕ, ◌+◌, Bool, List, [], ◌∷◌, length, nat_lt, Float}
use Rattle.arithmetic.specs.Binary32.{◌<ᶠ◌, 0ᶠ, when◌then◌else◌}
use Rattle.common.specs.declared.Vec2.{Vec2}
use Rattle.common.specs.Vectors.{sub_of, determinant_of}
use Rattle.lines.specs.declared.Line.{Line}
use Rattle.lines.specs.Lines.{lines_of}
use Rattle.admission.specs.Faults.{unless_fault}
use Rattle.linear_programming.specs.Whole.{Phase, solving, relaxing, rigid_failure}
use Rattle.linear_programming.specs.Read.{phase_of}
use Rattle.session.specs.declared.Session.{Session}
use Rattle.session.specs.Calls.{Unmet, At, Nothing, Refused}
use Rattle.session.specs.Batches.{batch_fault}

-- 01, "A line is met if determinant(direction, point now − line point) > 0": the 2D pass's own test. Exactly 0 is not
-- strictly met
unfoldable pub is_met : Vec2 → Line → Bool
is_met p l = 0ᶠ <ᶠ determinant_of l.direction (sub_of p l.point)

-- how many lines from the first on are strictly met, one behind the other: the place of the first that is not, or their
-- count where all are
unfoldable pub first_unmet : Vec2 → List Line → ℕ
first_unmet p [] = 0
first_unmet p (l ∷ ls) = when is_met p l then first_unmet p ls + 1 else 0

-- the point now, whatever the phase
unfoldable pub point_now : Phase → Vec2
point_now (solving p) = p
point_now (relaxing p depth) = p
point_now (rigid_failure k p) = p

-- the index that line k of a batch gets in a session of `count` lines, where it is one of the `n` lines of the batch
unfoldable pub named : ℕ → ℕ → ℕ → Unmet
named count n k = when nat_lt k n then At (count + k) else Nothing

-- "a line that the point at its arrival did not strictly meet, and the session can name the first":
-- by the index that it gets in the session, as a withdrawal and the failed line count;
-- or that there is none;
-- and only for numbers that a batch would take, else what refuses these
unfoldable pub unmet_as : Session → List Float → Unmet
unmet_as s xs =
    unless_fault Refused (batch_fault s.count xs [])
    (named s.count (length (lines_of xs)) (first_unmet (point_now (phase_of s.phase)) (lines_of xs)))
