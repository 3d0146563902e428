-- `held_sessions::put_lines` meets its contract. The invariant: the first n lines and origins are laid out. Assumes nothing.
use Rattle.std.proofs.Common.{◌≡◌, take}
use Rattle.lines.specs.Lines.{lines_of}
use Rattle.lines.specs.Origins.{origins_of}
use Rattle.held_sessions.proofs.put_lines.Given as goal

abbrev pub invariant-loop-n : goal.invariant-loop-n
invariant-loop-n l = record {
  lines : take l.n (lines_of l.lines) ≡ take l.n l.held;
  origins : take l.n (origins_of l.origins) ≡ take l.n l.known;
}
