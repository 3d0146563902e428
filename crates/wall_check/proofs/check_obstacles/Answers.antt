use Prim.Native.Nat.{◌+◌, ◌-◌, ◌*◌}
use mathlib.Core.Path.{◌≡◌, refl, sym, ◌∙◌}
use borrow.Author.Rules.{rules}
use native.Mathlib.Omega.{arith}
use native.Mathlib.Nat.{sub-zero}
use lib.ListN.{get_or}
use Rattle.obstacles.proofs.VertexNumbers.{part-size}
use Rattle.layouts.proofs.LentHolds.{all-lent, next-passes}
use Rattle.wall_check.specs.Crossings.{behind, known_of}
use Rattle.wall_check.proofs.CrossedInOrder.{obstacles-on, obstacles-done}
use Rattle.wall_check.proofs.check_obstacles.Goals as goal

pub loop-i-init : goal.loop-i-init
unfolding behind
loop-i-init c = (
  omega arith,
  omega arith,
  omega arith,
  rw sub-zero c.requires,
  rw sub-zero refl,
)

pub bounds-counts-i : goal.bounds-counts-i
bounds-counts-i c =
    omega (
      arith,
      (all-lent 0 c.args.obstacles c.args.kinds.now c.args.counts.now
          c.args.vertices.now (omega arith) c.requires).counts,
    )

pub overflow_add-end : goal.overflow_add-end
overflow_add-end c =
    let a = c.args in
    let l = c.loop-i in
    let there = next-passes a.kinds.now a.counts.now a.vertices.now a.obstacles l.i l.total
    (omega arith) l.invariant.1 l.invariant.3 in
    omega (arith, there.0)

pub bounds-kinds-i : goal.bounds-kinds-i
bounds-kinds-i c =
    omega (
      arith,
      (all-lent 0 c.args.obstacles c.args.kinds.now c.args.counts.now
          c.args.vertices.now (omega arith) c.requires).kinds,
    )

pub overflow_mul-total : goal.overflow_mul-total
overflow_mul-total c = omega (arith, c.loop-i.invariant.0)

pub overflow_mul-end : goal.overflow_mul-end
overflow_mul-end c =
    let a = c.args in
    let l = c.loop-i in
    let there = next-passes a.kinds.now a.counts.now a.vertices.now a.obstacles l.i l.total
    (omega arith) l.invariant.1 l.invariant.3 in
    omega (arith, there.0)

pub offset_bounds-vertices-total : goal.offset_bounds-vertices-total
offset_bounds-vertices-total c =
    let a = c.args in
    let l = c.loop-i in
    let there = next-passes a.kinds.now a.counts.now a.vertices.now a.obstacles l.i l.total
    (omega arith) l.invariant.1 l.invariant.3 in
    omega (arith, there.0)

pub slice_bounds-check_edges-end : goal.slice_bounds-check_edges-end
slice_bounds-check_edges-end c =
    let a = c.args in
    let l = c.loop-i in
    let there = next-passes a.kinds.now a.counts.now a.vertices.now a.obstacles l.i l.total
    (omega arith) l.invariant.1 l.invariant.3 in
    omega (arith, there.1)

pub check_edges-known-requires : goal.check_edges-known-requires
check_edges-known-requires c =
    let a = c.args in
    let l = c.loop-i in
    let there = next-passes a.kinds.now a.counts.now a.vertices.now a.obstacles l.i l.total
    (omega arith) l.invariant.1 l.invariant.3 in
    let count = get_or a.counts.now l.i 0 in
    let wide : c.from.result ≡ count = search rules in
    let cut : 2 * (l.total + count) - 2 * l.total ≡ 2 * count = omega arith in
    let size = part-size a.vertices.now l.total count (omega (arith, there.1)) in
    rw (wide, cut, size) (omega (arith, there.0, l.invariant.2))

pub loop-i-preserved : goal.loop-i-preserved
loop-i-preserved c =
    let a = c.args in
    let l = c.loop-i in
    let there = next-passes a.kinds.now a.counts.now a.vertices.now a.obstacles l.i l.total
    (omega arith) l.invariant.1 l.invariant.3 in
    let count = get_or a.counts.now l.i 0 in
    let wide : c.from.result ≡ count = search rules in
    let cut : 2 * (l.total + count) - 2 * l.total ≡ 2 * count = omega arith in
    let size = part-size a.vertices.now l.total count (omega (arith, there.1)) in
    let made = rw (wide, cut) at c.check_edges-known.ensures.0 in
    let few = rw (wide, cut, size) at c.check_edges-known.ensures.1 in
    let on = obstacles-on a.path.from a.path.to a.kinds.now a.counts.now a.vertices.now a.obstacles
    l.i l.total (known_of l.known) (omega arith) made in
    rw wide (there.0, there.1, omega (arith, few, l.invariant.2), there.2, l.invariant.4 ∙ on)

pub returns : goal.returns
returns c =
    let a = c.args in
    let l = c.loop-i in
    let done = obstacles-done a.path.from a.path.to a.kinds.now a.counts.now a.vertices.now a.obstacles
    l.i l.total {s = known_of l.known} (omega arith) in
    sym (l.invariant.4 ∙ done)
