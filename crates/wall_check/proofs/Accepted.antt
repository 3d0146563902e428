-- What holds of a move that is not refused. Assumes nothing.
use Prim.Native.Nat.{ℕ}
use mathlib.Core.Path.{◌≡◌}
use mathlib.Core.List.{List}
use lib.Dec.{leb}
use lib.Ieee.{Float}
use Rattle.admission.specs.Faults.{fine, must, ◌⊳◌}
use Rattle.admission.proofs.FaultLaws.{⊳-fine}
use Rattle.common.specs.declared.Vec2.{Vec2}
use Rattle.obstacles.specs.ObstacleFaults.{vector_fault}
use Rattle.dodgy_2d.specs.Scenes.{most_obstacles}
use Rattle.layouts.specs.Layouts.{lent_fault, layout_fault}
use Rattle.wall_check.specs.Crossings.{move_fault}

-- its obstacles pass
pub obstacles-pass : (from to : Vec2) (n : ℕ) (ks cs : List ℕ) (xs : List Float) → move_fault from to n ks cs xs ≡ fine →
    lent_fault 0 n ks cs xs ≡ fine
unfolding move_fault layout_fault
obstacles-pass from to n ks cs xs e =
    let positions = ⊳-fine (vector_fault from ⊳ vector_fault to) e in
    let layout = ⊳-fine (layout_fault n ks cs xs) positions.1 in
    (⊳-fine (must (leb n most_obstacles) 4) layout.0).1
