-- `wall_check::check_obstacles` meets its contract. The invariant: the obstacles from the i-th on pass, and behind what
-- is known their edges make the answer. Assumes nothing.
use Prim.Native.Nat.{◌-◌, ◌*◌, ◌≤◌}
use mathlib.Core.Path.{◌≡◌}
use lib.ListN.{length, drop}
use Rattle.admission.specs.Faults.{fine}
use Rattle.layouts.specs.Layouts.{lent_fault}
use Rattle.wall_check.specs.Crossings.{walls_of, crossed_in, found_in, behind, count_in, known_of}
use Rattle.wall_check.proofs.check_obstacles.Given as goal

abbrev pub invariant-loop-i : goal.invariant-loop-i
invariant-loop-i l = (l.total ≤ 192) × (2 * l.total ≤ length l.vertices) × (count_in (known_of l.known) ≤ l.total)
    × (lent_fault l.total (l.obstacles - l.i) (drop l.i l.kinds) (drop l.i l.counts) (drop (2 * l.total) l.vertices) ≡ fine)
    × (found_in (crossed_in l.path.from l.path.to (walls_of 0 l.obstacles l.kinds l.counts l.vertices))
    ≡ behind (known_of l.known) (crossed_in l.path.from l.path.to (walls_of l.i (l.obstacles - l.i) (drop l.i l.kinds) (drop l.i l.counts) (drop (2 * l.total) l.vertices))))
