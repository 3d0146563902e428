-- `session::Session::start` meets its contract. Assumes nothing.
use Rattle.std.proofs.Common.{◌≡◌, rules}
use Rattle.session.specs.Sessions.{started_of, started_as, blank_lines, blank_origins}
use Rattle.linear_programming.proofs.Agreement.{phase-back, failed-back}
use Rattle.session.proofs.StartLaws.{begins-by}
use Rattle.session.proofs.Session.start.Goals as goal

pub returns-in_err-standing : goal.returns-in_err-standing
unfolding started_as
returns-in_err-standing c =
    let a = c.args in
    let e : started_of c.from_residual.result ≡ started_as a.wish a.limit a.rigid = search rules in
    let h = begins-by a.wish a.limit a.rigid _ e in record { value = h.0; begins = h.1 }

pub returns : goal.returns
unfolding started_as blank_lines blank_origins
returns c =
    let a = c.args in
    let h = begins-by a.wish a.limit a.rigid _ (rw (← c.in_ok-standing.ensures, phase-back, failed-back, c.new.ensures)) in
    record { value = h.0; begins = h.1 }
