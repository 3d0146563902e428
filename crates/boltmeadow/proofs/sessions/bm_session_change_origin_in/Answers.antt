-- `boltmeadow::sessions::bm_session_change_origin_in` meets its contract. Assumes nothing.
use mathlib.Core.Path.{ap, ◌∙◌}
use Rattle.session.specs.Calls.{Changed}
use Rattle.held_sessions.specs.Blocks.{block}
use Rattle.boltmeadow.specs.Sessions.{left_changed}
use Rattle.boltmeadow.proofs.SessionLaws.{origin-left}
use Rattle.boltmeadow.proofs.sessions.bm_session_change_origin_in.Goals as goal
use Rattle.boltmeadow.proofs.sessions.bm_session_change_origin_in.Goals.{in-Ok, in-Err}

pub returns : goal.returns
returns c =
    let a = c.args in
    let b = block a.lines.now a.origins.now a.numbers.now a.words.now in
    elim c.match-changed.branch [
      | in-Ok w ↦
          let changed = rw (w.in-Ok.is, c.session_in-session.ensures) at c.change_origin-changed.ensures in
          rw w.judged-is (origin-left b _ _ (rw w.judged-is at c.leave-refusal.ensures)
          ∙ ap (λ (d : Changed). left_changed d b) changed)
      | in-Err w ↦
          let changed = rw (w.in-Err.is, c.session_in-session.ensures) at c.change_origin-changed.ensures in
          rw w.judged-is (origin-left b _ _ (rw (w.judged-is, w.number.ensures) at c.leave-refusal.ensures)
          ∙ ap (λ (d : Changed). left_changed d b) changed)
    ]
