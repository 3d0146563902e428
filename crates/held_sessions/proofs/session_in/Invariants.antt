-- `held_sessions::session_in` meets its contract. The invariant: the first i lines and origins are read. Assumes nothing.
use Rattle.std.proofs.Common.{◌≡◌, length, take}
use Rattle.lines.specs.Lines.{lines_of}
use Rattle.lines.specs.Origins.{origins_of}
use Rattle.held_sessions.proofs.session_in.Given as goal

abbrev pub invariant-loop-i : goal.invariant-loop-i
invariant-loop-i l = record {
  held_long : length l.held ≡ 256;
  known_long : length l.known ≡ 256;
  lines : take l.i l.held ≡ take l.i (lines_of l.lines);
  origins : take l.i l.known ≡ take l.i (origins_of l.origins);
}
