-- `dodgy_2d::passes::choose_lines` meets its contract. Assumes nothing.
use Prim.Native.Nat.{◌-◌, ◌*◌, ◌+◌, ◌≤◌}
use mathlib.Core.Path.{◌≡◌, refl, sym, ◌∙◌}
use native.Mathlib.Omega.{arith}
use lib.ListN.{length, drop, length-drop}
use borrow.Author.Rules.{rules}
use Rattle.std.proofs.lemmas.Result.{err_from_is_err_and}
use lib.Seq.{length-take-le}
use Rattle.dodgy_2d.specs.Admitted.{scene_from}
use Rattle.dodgy_2d.proofs.ScenePasses.{sizes, put-pasted, none-chosen, all-chosen}
use Rattle.dodgy_2d.proofs.passes.choose_lines.Goals as goal

pub returns-in_err-rigid : goal.returns-in_err-rigid
returns-in_err-rigid c =
    let e = err_from_is_err_and c.from_residual.result c.from_residual.ensures.1 in
    let edges = rw c.in_err-rigid.was at c.edge_lines.ensures in
    rw (e.1, e.2) (none-chosen c.args.scene.now c.args.velocity _ _ _ edges.1 edges.2 refl)

pub overflow_mul-more : goal.overflow_mul-more
overflow_mul-more c = omega (arith, (sizes _ c.scene.invariant).neighbours)

pub overflow_add-rigid : goal.overflow_add-rigid
overflow_add-rigid c =
    omega (arith, (sizes _ c.scene.invariant).neighbours, rw c.in_ok-rigid.was at c.edge_lines.ensures.0)

pub slice_bounds-copy_from_slice-end : goal.slice_bounds-copy_from_slice-end
slice_bounds-copy_from_slice-end c =
    let long : length c.edge_lines.new.lines.numbers ≡ 1024 = search rules in
    omega (arith, (sizes _ c.scene.invariant).neighbours, rw c.in_ok-rigid.was at c.edge_lines.ensures.0)

pub slice_bounds-copy_from_slice-end-2 : goal.slice_bounds-copy_from_slice-end-2
slice_bounds-copy_from_slice-end-2 c =
    let p = sizes _ c.scene.invariant in
    sym (length-take-le _ _ (omega (arith, p.lent, p.neighbours)))

pub copy_from_slice-requires : goal.copy_from_slice-requires
copy_from_slice-requires c =
    let p = sizes _ c.scene.invariant in
    let few = rw c.in_ok-rigid.was at c.edge_lines.ensures.0 in
    let long : length c.edge_lines.new.lines.numbers ≡ 1024 = search rules in
    let more = 4 * c.scene.inside.bare.neighbours in
    let at = 4 * c.in_ok-rigid.rigid in
    let part : at + more - at ≡ more = omega arith in
    rw part (length-take-le more (drop at c.edge_lines.new.lines.numbers) (rw length-drop (omega (arith, few, p.neighbours)))
    ∙ sym (length-take-le more _ (omega (arith, p.lent, p.neighbours))))

pub returns : goal.returns
returns c =
    let i = c.scene.inside in
    let s = scene_from i.bare i.kinds i.counts i.vertices.now i.lines.now in
    let p = sizes s c.scene.invariant in
    let edges = rw (← c.scene.view_is) at c.edge_lines.ensures in
    let long : length c.edge_lines.new.lines.numbers ≡ 1024 = search rules in
    let same : 4 * s.neighbours ≤ length s.lines = omega (arith, p.lent) in
    let put = put-pasted c.edge_lines.new.lines.numbers s.lines (4 * c.in_ok-rigid.rigid)
    (4 * c.in_ok-rigid.rigid + 4 * s.neighbours - 4 * c.in_ok-rigid.rigid) (4 * s.neighbours)
    c.copy_from_slice.ensures.after (omega arith) same in
    rw (put, ← c.scene.view_is) (all-chosen s c.args.velocity _ _ _ edges.1 edges.2 long c.in_ok-rigid.was edges.0
    p.neighbours same)
