-- `dodgy_2d::judge::judge_obstacles` meets its contract. The invariant: the obstacles before i pass, and have `total`
-- vertices. Assumes nothing.
use Rattle.dodgy_2d.proofs.HeadsInOrder.{heads_from}
use Prim.Native.Nat.{◌*◌, ◌≤◌}
use mathlib.Core.Path.{◌≡◌}
use lib.ListN.{drop}
use Rattle.dodgy_2d.specs.Scenes.{obstacles_fault}
use Rattle.dodgy_2d.proofs.judge.judge_obstacles.Given as goal

abbrev pub invariant-loop-i : goal.invariant-loop-i
invariant-loop-i l = (l.total ≤ 192)
    × (obstacles_fault 0 (heads_from l.kinds l.counts l.n 0) l.vertices
    ≡ obstacles_fault l.total (heads_from l.kinds l.counts l.n l.i) (drop (2 * l.total) l.vertices))
