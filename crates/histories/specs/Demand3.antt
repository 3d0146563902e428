-- Demand 3 as one statement (01; 02, T-12): lines come to a session in batches, empty ones too, and are taken back, one
-- at a time or several in one step with a batch. Definitions only. Assumes nothing.
use Rattle.std.specs.Prelude.{ℕ, ◌≡◌, List, [], ◌∷◌, Float}
use Rattle.admission.specs.Faults.{fine}
use Rattle.common.specs.declared.Vec2.{Vec2}
use Rattle.lines.specs.Lines.{numbers_of}
use Rattle.pass_2d.specs.Pass.{Failure}
use Rattle.linear_programming.specs.Whole.{failed_line, whole_list}
use Rattle.linear_programming.specs.Admit.{list_call}
use Rattle.linear_programming.specs.Read.{failed_of}
use Rattle.session.specs.declared.Session.{Session}
use Rattle.session.specs.Sessions.{lines_in, origins_in, outcome_in, started_as}
use Rattle.session.specs.Withdrawals.{fresh_as}
use Rattle.histories.specs.Cuts.{Batch, fed_by, joined, arrived}
use Rattle.histories.specs.Histories.{Operation, batch, withdrawal, change, done_by, done_all, Standing, nothing_yet, standing_after, batches}

-- the session over what stands
pub record StandsFresh (wish : Vec2) (limit : Float) (g : Standing) (s : Session) : Type 0 where
  -- is, as a value, the fresh one with the same wish and limit, fed the lines that stand, which is not refused;
  pub fresh : s ≡ (fresh_as wish limit g.rigid g.lines g.origins).session
  pub fresh-taken : (fresh_as wish limit g.rigid g.lines g.origins).judged ≡ fine
  -- it has these lines, each with its origin, and the rigid count as lowered;
  pub lines_are : lines_in s ≡ g.lines
  pub origins-are : origins_in s ≡ g.origins
  pub rigid-is : s.rigid ≡ g.rigid
  -- it stands as the whole-list rules over them do: phase, point, penetration, failed line with its cause and probes are
  -- all in `outcome_in`;
  pub whole : outcome_in s ≡ whole_list g.rigid wish limit g.lines
  -- and so as the single call over them does
  pub called : outcome_in s ≡ list_call g.rigid wish limit (numbers_of g.lines)

-- "line k stays the failed line only until the next withdrawal"; a change withdraws, too
pub data KeepsFailed (s : Session) : Operation → Type 0 where
  still-failed : {b : Batch} →
      ((k : Failure) → failed_of s.failed ≡ failed_line k → failed_of (fed_by s b).session.failed ≡ failed_line k) →
      KeepsFailed s (batch b)
  until-then : {i : ℕ} → KeepsFailed s (withdrawal i)
  until-changed : {is : List ℕ} {b : Batch} → KeepsFailed s (change is b)

-- a call of a session over what stands
pub record CallStands (wish : Vec2) (limit : Float) (g : Standing) (s : Session) (o : Operation) : Type 0 where
  -- is not refused;
  pub taken : (done_by s o).judged ≡ fine
  -- after it the session is the fresh one over what stands then;
  pub stands : StandsFresh wish limit (standing_after g o) (done_by s o).session
  -- and where it is a batch, a line that had failed is still the session's failed line
  pub keeps : KeepsFailed s o

-- so it is with each of the calls, one after the other
pub data EachStands (wish : Vec2) (limit : Float) : Standing → Session → List Operation → Type 0 where
  all_done : {g : Standing} {s : Session} → EachStands wish limit g s []
  done_on : {g : Standing} {s : Session} {o : Operation} {os : List Operation} → CallStands wish limit g s o →
      EachStands wish limit (standing_after g o) (done_by s o).session os → EachStands wish limit g s (o ∷ os)

-- DEMAND 3 of the calls os
pub record Demand3 (rigid : ℕ) (wish : Vec2) (limit : Float) (os : List Operation) : Type 0 where
  -- the session starts,
  pub started : (started_as wish limit rigid).judged ≡ fine
  -- and is the fresh one over no lines;
  pub none_yet : StandsFresh wish limit (nothing_yet rigid) (started_as wish limit rigid).session
  -- no call is refused, after each the session is the fresh one over the lines then standing, and between withdrawals a
  -- line that has failed stays the failed line
  pub each : EachStands wish limit (nothing_yet rigid) (started_as wish limit rigid).session os

-- the case of batches alone: a list cut into the batches bs
pub record CutStands (rigid : ℕ) (wish : Vec2) (limit : Float) (bs : List Batch) : Type 0 where
  pub history : Demand3 rigid wish limit (batches bs)
  -- after the last it stands as the single call over the numbers of all batches does,
  pub last : outcome_in (done_all (started_as wish limit rigid).session (batches bs)) ≡ list_call rigid wish limit (joined bs)
  -- and at each index has the origin that the line arrived with
  pub kept : origins_in (done_all (started_as wish limit rigid).session (batches bs)) ≡ arrived bs
