-- `obstacles::judge::judge_components` meets its contract. Assumes nothing.
use Prim.Native.Nat.{◌*◌}
use lib.Seq.{drop-drop}
use Rattle.obstacles.specs.ObstacleFaults.{components_fault}
use Rattle.obstacles.proofs.judge.judge_components.Goals as goal

pub returns : goal.returns
unfolding components_fault
returns c =
    let a = c.args in
    rw (drop-drop 1 (2 * a.i) a.vertices.now, ← c.in_ok-judge_number.ensures) c.judge_number-2.ensures
