use Prim.Native.Nat.{◌/◌}
use mathlib.Core.Path.{refl, sym, ◌∙◌}
use native.Mathlib.Omega.{arith}
use native.Mathlib.Nat.{sub-zero}
use lib.ListN.{length}
use Rattle.obstacles.proofs.EdgesInOrder.{few-edges}
use Rattle.wall_check.specs.Crossings.{own_walls, known_of}
use Rattle.wall_check.proofs.CrossedInOrder.{edges-on, edges-done}
use Rattle.wall_check.proofs.check_edges.Goals as goal

pub loop-i-init : goal.loop-i-init
unfolding own_walls
loop-i-init c = (omega arith, rw sub-zero refl)

pub note_edge-known-requires : goal.note_edge-known-requires
note_edge-known-requires c = omega (arith, c.requires, c.loop-i.invariant.0)

pub loop-i-preserved : goal.loop-i-preserved
loop-i-preserved c =
    let a = c.args in
    let l = c.loop-i in
    let on = edges-on a.path.from a.path.to a.obstacle a.kind a.vertices.now l.i (known_of l.known)
    (rw (← c.edge_ends-ends.ensures, ← c.is_crossed.ensures) c.note_edge-known.ensures.0) in
    (omega (arith, c.note_edge-known.ensures.1, l.invariant.0), l.invariant.1 ∙ on)

pub returns : goal.returns
returns c =
    let a = c.args in
    let l = c.loop-i in
    let few = few-edges a.kind (length a.vertices.now / 2) in
    let done = edges-done a.path.from a.path.to a.obstacle a.kind a.vertices.now l.i {s = known_of l.known} (omega (arith, few)) in
    (sym (l.invariant.1 ∙ done), omega (arith, l.invariant.0))
