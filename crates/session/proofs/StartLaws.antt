-- A start hands a session out, the blank one beside a refusal too, and tells what the single call over no lines tells.
-- Assumes nothing.
use Rattle.std.proofs.Common.{◌≡◌, ℕ, [], length, sym, refl, arith}
use lib.Ieee.{Float}
use Rattle.arithmetic.specs.Binary32.{0ᶠ}
use Rattle.common.specs.declared.Vec2.{Vec2}
use Rattle.common.specs.Vectors.{zero_vector}
use Rattle.lines.specs.Lines.{most_lines, lines_of}
use Rattle.lines.specs.LineFaults.{lines_fault}
use Rattle.linear_programming.specs.Whole.{Outcome, stands, refusal, solving, no_line}
use Rattle.admission.specs.Faults.{within, inside}
use Rattle.linear_programming.specs.Admit.{wish_fault, judged_list, list_call}
use Rattle.linear_programming.proofs.Agreement.{phase-there, failed-there}
use Rattle.linear_programming.proofs.Computed.{computed}
use Rattle.session.specs.Calls.{Fed}
use Rattle.session.specs.Sessions.{blank_lines, blank_origins, blank_session, started_by, started_as}
use Rattle.session.specs.Handed.{Handed, Begins}

blank-size : length blank_lines ≡ most_lines
unfolding blank_lines
blank-size = refl

blank-origins-size : length blank_origins ≡ most_lines
unfolding blank_origins
blank-origins-size = refl

nothing-wished : judged_list 0 zero_vector 0ᶠ [] ≡ stands (solving zero_vector) no_line 0
unfolding computed within inside wish_fault lines_fault judged_list
nothing-wished = refl

blank-handed : Handed blank_session
unfolding blank_session
blank-handed = record {
  size = blank-size;
  origins-size = blank-origins-size;
  fits = omega arith;
  blank = refl;
  blank-origins = refl;
  stand = nothing-wished;
}

begun : (wish : Vec2) (limit : Float) (rigid : ℕ) (o : Outcome) → list_call rigid wish limit [] ≡ o →
    Begins wish limit rigid (started_by wish limit rigid o)
unfolding list_call lines_of
begun wish limit rigid (stands ph f n) e = record {
  handed = record {
    size = blank-size;
    origins-size = blank-origins-size;
    fits = omega arith;
    blank = refl;
    blank-origins = refl;
    stand = rw (phase-there ph, failed-there f) e;
  };
  tells = rw (phase-there ph, failed-there f) (sym e);
}
begun wish limit rigid (refusal r) e = record { handed = blank-handed; tells = sym e }

pub begins : (wish : Vec2) (limit : Float) (rigid : ℕ) → Begins wish limit rigid (started_as wish limit rigid)
unfolding started_as
begins wish limit rigid = begun wish limit rigid (list_call rigid wish limit []) refl

-- as the contract of `start` says it
pub begins-by : (wish : Vec2) (limit : Float) (rigid : ℕ) (r : Fed) → r ≡ started_as wish limit rigid →
    (r ≡ started_as wish limit rigid) × Begins wish limit rigid r
begins-by wish limit rigid r e = (e, rw e (begins wish limit rigid))
