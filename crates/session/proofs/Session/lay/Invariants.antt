-- `session::Session::lay` meets its contract. The invariant: the first n of the lines and origins that are left are laid
-- out. Assumes nothing.
use Rattle.std.proofs.Common.{◌≡◌, take}
use Rattle.lines.specs.Lines.{lines_of}
use Rattle.lines.specs.Origins.{origins_of}
use Rattle.session.specs.Withdrawals.{without_all}
use Rattle.session.proofs.Session.lay.Given as goal

abbrev pub invariant-loop-n : goal.invariant-loop-n
invariant-loop-n l = record {
  lines : take l.n (lines_of l.numbers) ≡ take l.n (without_all l.withdrawn (take l.self.count l.self.lines));
  origins : take l.n (origins_of l.threes) ≡ take l.n (without_all l.withdrawn (take l.self.count l.self.origins));
}
