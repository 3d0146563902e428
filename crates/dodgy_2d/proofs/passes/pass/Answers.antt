-- `dodgy_2d::passes::pass` meets its contract. Assumes nothing.
use Prim.Native.Nat.{◌+◌, ◌*◌}
use mathlib.Core.Path.{◌≡◌, sym, ◌∙◌}
use native.Mathlib.Omega.{arith}
use lib.ListN.{length}
use lib.Seq.{length-take-le}
use Rattle.std.specs.Prelude.{Ok}
use Rattle.std.proofs.lemmas.Result.{err_from_is_err_and}
use Rattle.admission.specs.Refusals.{number_of}
use Rattle.linear_programming.specs.Whole.{refusal}
use Rattle.linear_programming.specs.Read.{outcome_of as list_outcome_of}
use Rattle.dodgy_2d.specs.Outcomes.{pass_at}
use Rattle.dodgy_2d.specs.Admitted.{scene_from}
use Rattle.dodgy_2d.proofs.ScenePasses.{sizes, pass-solved, sized-fits}
use Rattle.dodgy_2d.proofs.OriginsNoted.{walls-part, walls-told, pass-origin, refused-origin}
use Rattle.dodgy_2d.proofs.passes.pass.Goals as goal

pub overflow_add-end : goal.overflow_add-end
overflow_add-end c =
    omega (arith, (sizes _ c.scene.invariant).neighbours, rw c.in_ok-rigid.was at c.choose_lines.ensures.few)

pub overflow_mul-end : goal.overflow_mul-end
overflow_mul-end c =
    omega (arith, (sizes _ c.scene.invariant).neighbours, rw c.in_ok-rigid.was at c.choose_lines.ensures.few)

pub shared_ref_as_front-solve_admitted_lines : goal.shared_ref_as_front-solve_admitted_lines
shared_ref_as_front-solve_admitted_lines c =
    omega (arith, (sizes _ c.scene.invariant).neighbours, rw c.in_ok-rigid.was at c.choose_lines.ensures.few)

pub slice_bounds-solve_admitted_lines-end : goal.slice_bounds-solve_admitted_lines-end
slice_bounds-solve_admitted_lines-end c =
    let few = rw c.in_ok-rigid.was at c.choose_lines.ensures.few in
    let long : length c.choose_lines.new.lines.numbers ≡ 1024 = c.choose_lines.new.lines.room.0 in
    let end = 4 * (c.in_ok-rigid.rigid + c.scene.inside.bare.neighbours) in
    sym (length-take-le end c.choose_lines.new.lines.numbers
    (omega (arith, (sizes _ c.scene.invariant).neighbours, few, long)))

pub failed_origin-origin-requires : goal.failed_origin-origin-requires
failed_origin-origin-requires c = (sizes _ c.scene.invariant).neighbours

pub returns-in_err-rigid : goal.returns-in_err-rigid
unfolding pass_at
returns-in_err-rigid c =
    let e = err_from_is_err_and c.from_residual.result c.from_residual.ensures.1 in
    let s = c.args.scene.now in
    let v = c.args.velocity in
    let told : refusal (number_of c.in_err-rigid.field-0.0) ≡ pass_at s v =
    rw (← rw c.in_err-rigid.was at c.choose_lines.ensures.rigid) in
    rw (e.1, e.2) (record { told = told; origin = refused-origin s v _ told; few = tt })

pub returns-in_err-standing : goal.returns-in_err-standing
returns-in_err-standing c =
    let e = err_from_is_err_and c.from_residual-in_err-standing.result c.from_residual-in_err-standing.ensures.1 in
    let chosen = rw (← c.scene.view_is) at c.choose_lines.ensures in
    let same = c.in_ok-rigid.was in
    let long : length c.choose_lines.new.lines.numbers ≡ 1024 = c.choose_lines.new.lines.room.0 in
    let i = c.scene.inside in
    let s = scene_from i.bare i.kinds i.counts i.vertices.now i.lines.now in
    let p = sizes s c.scene.invariant in
    let v = c.args.velocity in
    let told : refusal (number_of c.in_err-standing.field-0.0) ≡ pass_at s v =
    rw c.in_err-standing.was at c.solve_admitted_lines.ensures
    ∙ pass-solved s v _ c.in_ok-rigid.rigid p.neighbours (rw same at chosen.few) long (rw same at chosen.rigid)
    (rw same at chosen.all) in
    rw (e.1, e.2, ← c.scene.view_is) (record { told = told; origin = refused-origin s v _ told; few = tt })

pub returns : goal.returns
returns c =
    let chosen = rw (← c.scene.view_is) at c.choose_lines.ensures in
    let same = c.in_ok-rigid.was in
    let long : length c.choose_lines.new.lines.numbers ≡ 1024 = c.choose_lines.new.lines.room.0 in
    let i = c.scene.inside in
    let s = scene_from i.bare i.kinds i.counts i.vertices.now i.lines.now in
    let p = sizes s c.scene.invariant in
    let v = c.args.velocity in
    let rigid = c.in_ok-rigid.rigid in
    let few = rw same at chosen.few in
    let told : list_outcome_of (Ok c.in_ok-standing.standing) ≡ pass_at s v =
    rw c.in_ok-standing.was at c.solve_admitted_lines.ensures
    ∙ pass-solved s v _ rigid p.neighbours few long (rw same at chosen.rigid) (rw same at chosen.all) in
    let room : length c.choose_lines.new.lines.walls ≡ 192 = c.choose_lines.new.lines.room.1 in
    let noted = walls-part rigid c.choose_lines.new.lines.walls (omega (arith, few)) ∙ walls-told chosen.noted same in
    rw (← c.scene.view_is) (record {
      told = told;
      origin = c.failed_origin-origin.ensures ∙ pass-origin s v _ _ noted told;
      few = sized-fits s v c.scene.invariant told;
    })
