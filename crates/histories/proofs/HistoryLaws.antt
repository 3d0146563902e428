-- Demand 3 over any history (specs/Demand3). Whatever batches, withdrawals and changes a session has taken, it is the
-- fresh session fed the lines that now stand, so that it stands as the whole-list rules and as the single call over
-- them do. Assumes nothing.
use Prim.Native.Nat.{ℕ}
use mathlib.Core.Path.{◌≡◌, sym, ◌∙◌}
use mathlib.Core.List.{List}
use native.Mathlib.Omega.{arith}
use lib.Ieee.{Float}
use Rattle.common.specs.declared.Vec2.{Vec2}
use Rattle.lines.specs.Lines.{numbers_of}
use Rattle.lines.proofs.Numbers.{lines-back, numbers-long}
use Rattle.admission.specs.Faults.{fine}
use Rattle.linear_programming.specs.Admit.{wish_fault}
use Rattle.session.specs.declared.Session.{Session}
use Rattle.histories.specs.Histories.{Operation, done_by, done_all, Standing, nothing_yet, standing_after, standing_after_all, Fits, batch-fits, index_below, change-fits, AllFit, no_more, and_then}
use Rattle.histories.specs.Demand3.{StandsFresh, KeepsFailed, still-failed, until-then, until-changed, CallStands, EachStands, all_done, done_on, Demand3}
use Rattle.histories.proofs.StandLaws.{StandsOver, stands-whole, stands-judged, batch-taken, batch-over, failed-stays, called, start-taken, start-over}
use Rattle.histories.proofs.FreshLaws.{same-session, over-fresh, withdrawn-taken, withdrawn-over}
use Rattle.histories.proofs.ChangeLaws.{change-taken, change-over}

-- the session was handed out over what stands
abbrev pub Over : Vec2 → Float → Standing → Session → Type 0
Over wish limit g s = StandsOver s g.rigid wish limit g.lines g.origins

module _ (wish : Vec2) (limit : Float) where
  pub stands-fresh : {s : Session} (g : Standing) → Over wish limit g s → StandsFresh wish limit g s
  stands-fresh g o =
      let f = over-fresh o g.rigid in
      record {
        fresh = same-session o f.over;
        fresh-taken = f.taken;
        lines_are = o.lines_are;
        origins-are = o.origins-are;
        rigid-is = o.rigid-is;
        whole = stands-whole o;
        called = stands-judged o ∙ sym (called g.rigid wish limit (numbers_of g.lines)
            (omega (arith, numbers-long g.lines)) ∙ rw (lines-back g.lines));
      }

  -- ---- one call

  one-taken : {s : Session} {g : Standing} {p : Operation} → Over wish limit g s → Fits g p →
      (done_by s p).judged ≡ fine
  one-taken o (batch-fits {b = b} admitted room) = batch-taken o b admitted room
  one-taken o (index_below {i = i} below) = withdrawn-taken o i below
  one-taken o (change-fits {is = is} {b} up admitted room) = change-taken o is up b admitted room

  one-over : {s : Session} {g : Standing} {p : Operation} → Over wish limit g s → Fits g p →
      Over wish limit (standing_after g p) (done_by s p).session
  one-over o (batch-fits {b = b} admitted room) = batch-over o b admitted room
  one-over o (index_below {i = i} below) = withdrawn-over o i below
  one-over o (change-fits {is = is} {b} up admitted room) = change-over o is up b admitted room

  one-keeps : {s : Session} {g : Standing} {p : Operation} → Over wish limit g s → Fits g p → KeepsFailed s p
  one-keeps o (batch-fits {b = b} admitted room) = still-failed (failed-stays o b admitted room)
  one-keeps o (index_below below) = until-then
  one-keeps o (change-fits up admitted room) = until-changed

  one-stands : {s : Session} {g : Standing} {p : Operation} → Over wish limit g s → Fits g p → CallStands wish limit g s p
  one-stands {g = g} {p} o fits = record {
    taken = one-taken o fits;
    stands = stands-fresh (standing_after g p) (one-over o fits);
    keeps = one-keeps o fits;
  }

  -- ---- any calls, from any session that was handed out on

  pub each_stands : {s : Session} {g : Standing} {os : List Operation} → Over wish limit g s → AllFit g os →
      EachStands wish limit g s os
  each_stands {s = s} o no_more = all_done
  each_stands {s = s} o (and_then {o = o'} fits rest) =
      done_on (one-stands o fits) (each_stands {s = (done_by s o').session} (one-over o fits) rest)

  pub last-over : {s : Session} {g : Standing} {os : List Operation} → Over wish limit g s → AllFit g os →
      Over wish limit (standing_after_all g os) (done_all s os)
  last-over {s = s} o no_more = o
  last-over {s = s} o (and_then {o = o'} fits rest) = last-over {s = (done_by s o').session} (one-over o fits) rest

  -- DEMAND 3: from a start with an admitted wish and limit, calls that fit what then stands
  pub history-stands : (rigid : ℕ) (os : List Operation) → wish_fault wish limit ≡ fine →
      AllFit (nothing_yet rigid) os → Demand3 rigid wish limit os
  history-stands rigid os w fit =
      let o = start-over rigid wish limit w in
      record {
        started = start-taken rigid wish limit w;
        none_yet = stands-fresh (nothing_yet rigid) o;
        each = each_stands {g = nothing_yet rigid} o fit;
      }
