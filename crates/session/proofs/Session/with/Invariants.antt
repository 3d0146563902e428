-- `session::Session::with` meets its contract. The invariant: the lines and origins from i on, stored behind those that
-- are, give the same arrays. Assumes nothing.
use Rattle.std.proofs.Common.{◌≡◌, ◌+◌, ◌/◌, length, drop}
use lib.Seq.{sets}
use Rattle.lines.specs.Lines.{lines_of}
use Rattle.session.specs.Batches.{origins_for}
use Rattle.session.proofs.Session.with.Given as goal

abbrev pub invariant-loop-i : goal.invariant-loop-i
invariant-loop-i l = record {
  lines_long : length l.lines ≡ 256;
  origins_long : length l.origins ≡ 256;
  lines : sets l.self.lines l.from (lines_of l.numbers) ≡ sets l.lines (l.from + l.i) (drop l.i (lines_of l.numbers));
  origins : sets l.self.origins l.from (origins_for (length l.numbers / 4) l.brought)
      ≡ sets l.origins (l.from + l.i) (drop l.i (origins_for (length l.numbers / 4) l.brought));
}
