-- `obstacles::judge::judge_vertex` meets its contract. Assumes nothing.
use Prim.Native.Nat.{◌*◌}
use mathlib.Core.Path.{◌≡◌, ◌∙◌}
use native.Mathlib.Omega.{arith}
use lib.ListN.{drop}
use Rattle.obstacles.specs.ObstacleFaults.{front_of, vertex_fault}
use Rattle.obstacles.proofs.VertexNumbers.{front_at}
use Rattle.obstacles.proofs.ObstacleFaults.{components-there}
use Rattle.obstacles.proofs.judge.judge_vertex.Goals as goal

pub vertex_at-requires : goal.vertex_at-requires
vertex_at-requires c =
    let a = c.args in
    omega (arith, components-there a.vertices.now a.i c.in_ok-judge_components.ensures)

pub returns : goal.returns
unfolding vertex_fault
returns c =
    let a = c.args in
    let passed = c.in_ok-judge_components.ensures in
    let own : _ ≡ front_of (drop (2 * a.i) a.vertices.now) = c.vertex_at.ensures
    ∙ front_at a.vertices.now a.i (components-there a.vertices.now a.i passed) in
    rw (← own, ← passed, ← c.may_follow.ensures) c.unless.ensures
