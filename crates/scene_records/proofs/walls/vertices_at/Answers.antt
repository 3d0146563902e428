use mathlib.Core.Path.{refl, sym, ◌∙◌}
use native.Mathlib.Omega.{arith}
use Rattle.edges.specs.Read.{outer_of}
use Rattle.obstacles.specs.Doubled.{on_vertex}
use Rattle.scene_records.specs.Parts.{coordinates, vertex, vertices_at}
use Rattle.scene_records.proofs.Chains.{told_exit}
use Rattle.scene_records.proofs.StoredLaws.{stored-done, stored_next, stored-refused}
use Rattle.scene_records.proofs.walls.vertices_at.Goals as goal

pub returns-in_err-vertex : goal.returns-in_err-vertex
unfolding vertices_at
returns-in_err-vertex c =
    let l = c.loop-i in
    told_exit _ _ _ c.from_residual.ensures.1
    ∙ sym (l.invariant ∙ stored-refused coordinates 2 (λ v. refl) (vertex c.args.bytes.now) on_vertex _ _ _ _ _ _
    c.loop-i-test.true _ c.in_err-vertex.ensures)

pub loop-i-preserved : goal.loop-i-preserved
unfolding vertices_at
loop-i-preserved c =
    let l = c.loop-i in
    l.invariant ∙ stored_next coordinates 2 (λ v. refl) (vertex c.args.bytes.now) on_vertex _ _ _ _ _ _
    c.loop-i-test.true _ _ _ _ c.in_ok-vertex.ensures c.put.ensures (omega arith)

pub returns : goal.returns
unfolding vertices_at
returns c =
    let l = c.loop-i in
    stored-done coordinates 2 (λ v. refl) (vertex c.args.bytes.now) on_vertex _ _ (outer_of l.previous) _ _ _
    c.loop-i-test.false ∙ sym l.invariant
