-- `layouts::judge_layout` meets its contract. The invariant: the obstacles before i pass, and have `total` vertices.
-- Assumes nothing.
use Prim.Native.Nat.{◌+◌, ◌-◌, ◌*◌, ◌≤◌}
use mathlib.Core.Path.{◌≡◌}
use lib.ListN.{length, drop}
use Rattle.layouts.specs.Layouts.{lent_fault, vertex_total}
use Rattle.layouts.proofs.judge_layout.Given as goal

abbrev pub invariant-loop-i : goal.invariant-loop-i
invariant-loop-i l = (l.total ≤ 192)
    × (lent_fault 0 l.obstacles l.kinds l.counts l.vertices ≡ lent_fault l.total (l.obstacles - l.i) (drop l.i l.kinds) (drop l.i l.counts)
    (drop (2 * l.total) l.vertices))
    × (vertex_total l.obstacles l.counts ≡ l.total + vertex_total (l.obstacles - l.i) (drop l.i l.counts))
    × (2 * l.total ≤ length l.vertices)
