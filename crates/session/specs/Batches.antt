-- A batch (01, "Refusal numbers": "A batch has the same order without wish, limit and starting point") and the origins
-- that it may bring (02, T-06): what comes back, whole. Definitions only. Assumes nothing.
use Rattle.std.specs.Prelude.{ℕ, ◌+◌, ◌*◌, ◌%◌, ◌^◌, Bool, ◌||◌, List, [], ◌∷◌, ◌++◌, length, replicate, ◌==◌, nat_le, Float}
use Rattle.std.proofs.lemmas.List.Edits.{sets}
use Rattle.lines.specs.declared.Line.{Line}
use Rattle.lines.specs.Lines.{most_lines, lines_of}
use Rattle.lines.specs.LineFaults.{lines_fault}
use Rattle.lines.specs.declared.Origin.{Origin}
use Rattle.lines.specs.Origins.{unknown, origins_of}
use Rattle.linear_programming.specs.Whole.{Outcome, stands, refusal}
use Rattle.admission.specs.Faults.{Fault, fine, fault, must, ◌⊳◌, fits_behind}
use Rattle.linear_programming.specs.Admit.{◌⟫◌, fours}
use Rattle.linear_programming.specs.Resume.{resumed}
use Rattle.linear_programming.specs.Read.{phase_of, phase_as, failed_of, failed_as}
use Rattle.session.specs.declared.Session.{Session}
use Rattle.session.specs.Calls.{Fed}
use Rattle.session.specs.Sessions.{lines_in}

-- "three whole numbers a line .. kept as they stand"; "Without them each line's origin is unknown": the origins of n lines
unfoldable pub origins_for : ℕ → List ℕ → List Origin
origins_for n [] = replicate n unknown
origins_for n (x ∷ xs) = origins_of (x ∷ xs)

-- none, or three a line
unfoldable pub fitting : ℕ → ℕ → Bool
fitting numbers lines = numbers == 0 || numbers == 3 * lines

-- "any other count of them gets 2"
abbrev pub origins_fault : ℕ → List ℕ → Fault
origins_fault n os = must (fitting (length os) n) 2

-- "any other value gets 4 if its count is over 256"; then "four numbers a line, else 2", and their origins "where the
-- lines' own count is judged"; "4; lines in order (6, 7)"
unfoldable pub batch_fault : ℕ → List Float → List ℕ → Fault
batch_fault count xs os =
    must (nat_le count most_lines) 4
    ⊳ fours xs
    ⊳ origins_fault (length (lines_of xs)) os
    ⊳ must (fits_behind most_lines count (length (lines_of xs))) 4
    ⊳ lines_fault (lines_of xs)

-- a batch's lines and origins stored behind those that stand, and nothing of them worked
abbrev pub stored_in : Session → List Line → List ℕ → Session
stored_in s lines os = record {
  lines = sets s.lines s.count lines;
  origins = sets s.origins s.count (origins_for (length lines) os);
  count = s.count + length lines;
  rigid = s.rigid;
  wish = s.wish;
  limit = s.limit;
  phase = s.phase;
  failed = s.failed;
  probes = s.probes;
}

-- the lines and origins behind those that stand, as the solve leaves them; or the session as it was. Probes are added
-- modulo 2 ^ 32: only a session that was not handed out can come there
abbrev pub settled_on : Session → List Line → List Origin → ℕ → Outcome → Fed
settled_on s lines origins count (stands ph f n) = record {
  judged = fine;
  session = record {
    lines = lines;
    origins = origins;
    count = count;
    rigid = s.rigid;
    wish = s.wish;
    limit = s.limit;
    phase = phase_as ph;
    failed = failed_as f;
    probes = (s.probes + n) % 2 ^ 32;
  };
}
settled_on s lines origins count (refusal r) = record { judged = fault r; session = s }

abbrev pub settled : Session → List Line → List ℕ → Outcome → Fed
settled s lines os o =
    settled_on s (sets s.lines s.count lines) (sets s.origins s.count (origins_for (length lines) os))
    (s.count + length lines) o

-- only the new lines are worked, behind the lines that stand; no origin is looked at
unfoldable pub worked : Session → List Line → Outcome
worked s lines =
    resumed s.rigid s.wish s.limit (lines_in s ++ lines) s.count (phase_of s.phase) (failed_of s.failed)

-- "A batch may bring origins beside its lines"
unfoldable pub fed_with : Session → List Float → List ℕ → Fed
fed_with s xs os = settled s (lines_of xs) os (batch_fault s.count xs os ⟫ worked s (lines_of xs))

-- or none
unfoldable pub fed_as : Session → List Float → Fed
fed_as s xs = fed_with s xs []
