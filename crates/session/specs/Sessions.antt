-- A session, and how one starts (01, "What must change shape"; the order of a line list's faults without lines).
-- Definitions only. Assumes nothing.
use Rattle.std.specs.Prelude.{ℕ, Result, List, [], take, replicate, Float}
use Rattle.arithmetic.specs.Binary32.{0ᶠ}
use Rattle.common.specs.declared.Vec2.{Vec2}
use Rattle.common.specs.Vectors.{zero_vector}
use Rattle.lines.specs.declared.Line.{Line}
use Rattle.lines.specs.Lines.{line, most_lines}
use Rattle.lines.specs.declared.Origin.{Origin}
use Rattle.lines.specs.Origins.{unknown}
use Rattle.linear_programming.specs.Whole.{solving, no_line, Outcome, stands, refusal}
use Rattle.admission.specs.Faults.{fine, fault}
use Rattle.linear_programming.specs.Admit.{list_call}
use Rattle.linear_programming.specs.Read.{phase_of, phase_as, failed_of, failed_as}
use Rattle.session.specs.declared.Session.{Session}
use Rattle.admission.specs.declared.refusal.Refusal.{Refusal}
use Rattle.session.specs.Calls.{Fed, made_of}

-- the lines that stand, the origin of each, and how they stand
abbrev pub lines_in : Session → List Line
lines_in s = take s.count s.lines

abbrev pub origins_in : Session → List Origin
origins_in s = take s.count s.origins

abbrev pub outcome_in : Session → Outcome
outcome_in s = stands (phase_of s.phase) (failed_of s.failed) s.probes

-- the arrays of a session that has no lines yet
unfoldable pub blank_lines : List Line
blank_lines = replicate most_lines (line zero_vector zero_vector)

unfoldable pub blank_origins : List Origin
blank_origins = replicate most_lines unknown

unfoldable pub blank_session : Session
blank_session = record {
  lines = blank_lines;
  origins = blank_origins;
  count = 0;
  rigid = 0;
  wish = zero_vector;
  limit = 0ᶠ;
  phase = phase_as (solving zero_vector);
  failed = failed_as no_line;
  probes = 0;
}

-- what a start's answer says: a blank session stands beside a refusal
abbrev pub started_of : Result Session Refusal → Fed
started_of r = made_of blank_session r

-- a session with no lines that stands as told; a blank one beside a refusal
abbrev pub started_by : Vec2 → Float → ℕ → Outcome → Fed
started_by wish limit rigid (stands ph f n) = record {
  judged = fine;
  session = record {
    lines = blank_lines;
    origins = blank_origins;
    count = 0;
    rigid = rigid;
    wish = wish;
    limit = limit;
    phase = phase_as ph;
    failed = failed_as f;
    probes = n;
  };
}
started_by wish limit rigid (refusal r) = record { judged = fault r; session = blank_session }

-- as the single call over no lines
unfoldable pub started_as : Vec2 → Float → ℕ → Fed
started_as wish limit rigid = started_by wish limit rigid (list_call rigid wish limit [])
