-- Sessions that a start and later calls handed out, and what start and batch promise of them (01, "What must change
-- shape"; demand 3). Definitions only. Assumes nothing.
use Rattle.std.specs.Prelude.{◌≡◌, ℕ, ◌≤◌, List, [], ◌++◌, length, drop, Float}
use Rattle.common.specs.declared.Vec2.{Vec2}
use Rattle.lines.specs.Lines.{most_lines, lines_of}
use Rattle.linear_programming.specs.Whole.{Outcome}
use Rattle.admission.specs.Faults.{fine, fault}
use Rattle.linear_programming.specs.Admit.{◌⟫◌, fours, judged_list, list_call}
use Rattle.session.specs.declared.Session.{Session}
use Rattle.session.specs.Calls.{Fed}
use Rattle.session.specs.Sessions.{lines_in, origins_in, outcome_in, blank_lines, blank_origins}
use Rattle.session.specs.Batches.{origins_for, origins_fault}

-- the session stands as the single call over its own lines does: phase, point, penetration, failed line and probes;
-- behind its lines every place is blank
pub record Handed (s : Session) : Type 0 where
  pub size : length s.lines ≡ most_lines
  pub origins-size : length s.origins ≡ most_lines
  pub fits : s.count ≤ most_lines
  pub blank : drop s.count s.lines ≡ drop s.count blank_lines
  pub blank-origins : drop s.count s.origins ≡ drop s.count blank_origins
  pub stand : judged_list s.rigid s.wish s.limit (lines_in s) ≡ outcome_in s

-- what a call tells: how its session stands, or the number of its refusal
abbrev pub told_by : Fed → Outcome
told_by r = r.judged ⟫ outcome_in r.session

-- a start tells what the single call over no lines tells, and hands a session out
pub record Begins (wish : Vec2) (limit : Float) (rigid : ℕ) (r : Fed) : Type 0 where
  pub handed : Handed r.session
  pub tells : told_by r ≡ list_call rigid wish limit []

-- a session that was handed out, given a batch, tells what the single call over all lines tells, and is one that was
-- handed out again, over its own lines and those of the batch, each with the origin that it arrived with; refused, it
-- is the session it was
pub record ContinuesWith (s : Session) (xs : List Float) (os : List ℕ) (r : Fed) : Type 0 where
  pub handed : Handed r.session
  pub tells : told_by r ≡ (fours xs ⟫ (origins_fault (length (lines_of xs)) os ⟫ judged_list s.rigid s.wish s.limit
      (lines_in s ++ lines_of xs)))
  pub grows : r.judged ≡ fine → lines_in r.session ≡ lines_in s ++ lines_of xs
  pub remembers : r.judged ≡ fine → origins_in r.session ≡ origins_in s ++ origins_for (length (lines_of xs)) os
  pub aims : (r.session.rigid ≡ s.rigid) × (r.session.wish ≡ s.wish) × (r.session.limit ≡ s.limit)
  pub untouched : (n : ℕ) → r.judged ≡ fault n → r.session ≡ s

-- a batch that brings no origins
abbrev pub Continues : Session → List Float → Fed → Type 0
Continues s xs r = ContinuesWith s xs [] r
