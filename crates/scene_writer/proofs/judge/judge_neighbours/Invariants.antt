-- `scene_writer::judge::judge_neighbours` meets its contract. The invariant: the lines before i pass. Assumes nothing.
use Prim.Native.Nat.{◌-◌, ◌*◌}
use mathlib.Core.Path.{◌≡◌}
use lib.ListN.{drop}
use Rattle.scene_writer.specs.Writing.{lent_lines_fault}
use Rattle.scene_writer.proofs.judge.judge_neighbours.Given as goal

abbrev pub invariant-loop-i : goal.invariant-loop-i
invariant-loop-i l = lent_lines_fault l.neighbours l.lines ≡ lent_lines_fault (l.neighbours - l.i) (drop (4 * l.i) l.lines)
