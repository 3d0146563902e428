use mathlib.Core.Path.{sym, ◌∙◌}
use native.Mathlib.Omega.{arith}
use native.Mathlib.Nat.{sub-zero}
use Rattle.std.proofs.lemmas.Result.{err_from_is_err_and}
use Rattle.edges.specs.Read.{outer_of}
use Rattle.obstacles.proofs.VertexNumbers.{front_at}
use Rattle.obstacles.proofs.ObstacleFaults.{vertex-on, vertex-stop, vertices-done, next-lent}
use Rattle.obstacles.proofs.judge.judge_vertices.Goals as goal

pub loop-i-init : goal.loop-i-init
loop-i-init c = (omega arith, rw sub-zero)

pub returns-in_err-judge_vertex : goal.returns-in_err-judge_vertex
returns-in_err-judge_vertex c =
    let a = c.args in
    let l = c.loop-i in
    let p = err_from_is_err_and c.from_residual.result c.from_residual.ensures.1 in
    rw (p.1, p.2) (sym (l.invariant.1
    ∙ vertex-stop a.vertices.now a.count l.i (outer_of l.previous) _ (omega arith) c.in_err-judge_vertex.ensures))

pub vertex_at-requires : goal.vertex_at-requires
vertex_at-requires c =
    let a = c.args in
    let l = c.loop-i in
    omega (arith, next-lent a.vertices.now a.count l.i (outer_of l.previous) l.invariant.0 c.in_ok-judge_vertex.ensures)

pub loop-i-preserved : goal.loop-i-preserved
loop-i-preserved c =
    let a = c.args in
    let l = c.loop-i in
    let step = c.in_ok-judge_vertex.ensures in
    let there = next-lent a.vertices.now a.count l.i (outer_of l.previous) l.invariant.0 step in
    let own = c.vertex_at.ensures ∙ front_at a.vertices.now l.i (omega arith) in
    (there, l.invariant.1 ∙ vertex-on a.vertices.now a.count l.i (outer_of l.previous) _ (omega arith) step own)

pub returns : goal.returns
returns c =
    let a = c.args in
    let l = c.loop-i in
    sym (l.invariant.1 ∙ vertices-done a.vertices.now a.count l.i (outer_of l.previous) (omega arith))
