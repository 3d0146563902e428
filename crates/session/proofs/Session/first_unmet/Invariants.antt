-- `session::Session::first_unmet` meets its contract. The invariant: the first i lines are met, and the count goes on from
-- there. Assumes nothing.
use Rattle.std.proofs.Common.{◌≡◌, ◌+◌, drop}
use Rattle.lines.specs.Lines.{lines_of}
use Rattle.session.specs.Meeting.{first_unmet}
use Rattle.session.proofs.Session.first_unmet.Given as goal

abbrev pub invariant-loop-i : goal.invariant-loop-i
invariant-loop-i l = first_unmet l.point (lines_of l.numbers) ≡ l.i + first_unmet l.point (drop l.i (lines_of l.numbers))
