use Prim.Native.Nat.{◌+◌, ◌*◌, ◌≤◌}
use mathlib.Core.Path.{refl, sym, ◌∙◌}
use native.Mathlib.Omega.{arith}
use native.Mathlib.Nat.{sub-zero}
use lib.ListN.{length, get_or}
use Rattle.layouts.proofs.LentInOrder.{total-on}
use Rattle.scene_writer.proofs.PutLaws.{wall-next, walls-end}
use Rattle.scene_writer.proofs.put.put_obstacles.Goals as goal

pub loop-i-init : goal.loop-i-init
loop-i-init c = record { vertices = rw sub-zero (omega (arith, c.requires.3)); rest = refl }

pub put_obstacle-requires : goal.put_obstacle-requires
put_obstacle-requires c =
    let l = c.loop-i in
    let a = c.args in
    let more = total-on a.kinds.now a.counts.now a.vertices.now a.obstacles l.i l.total c.loop-i-test.true in (
      omega (arith, l.auto.buffer, l.invariant.vertices, more, c.requires.5),
      omega (arith, l.invariant.vertices, more),
    )

pub loop-i-preserved : goal.loop-i-preserved
loop-i-preserved c =
    let l = c.loop-i in
    let a = c.args in
    let more = total-on a.kinds.now a.counts.now a.vertices.now a.obstacles l.i l.total c.loop-i-test.true in
    let fits : 2 * (l.total + get_or a.counts.now l.i 0) ≤ length a.vertices.now = omega (arith, l.invariant.vertices, more) in
    record {
      vertices = omega (arith, l.invariant.vertices, more);
      rest = l.invariant.rest ∙ wall-next a.kinds.now a.counts.now a.vertices.now l.i l.total l.buffer _ _ refl
          (omega (arith, c.requires.1)) (omega (arith, c.requires.2)) fits c.put_obstacle.ensures;
    }

pub returns : goal.returns
returns c =
    let a = c.args in
    let l = c.loop-i in
    walls-end a.kinds.now a.counts.now a.vertices.now l.i l.total l.buffer _
    (omega (arith, c.requires.1, c.loop-i-test.false)) ∙ sym l.invariant.rest
