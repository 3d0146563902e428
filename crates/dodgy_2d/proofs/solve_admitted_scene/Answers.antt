-- `dodgy_2d::solve_admitted_scene` meets its contract. Assumes nothing.
use mathlib.Core.Path.{◌≡◌}
use Rattle.std.proofs.lemmas.Result.{err_from_is_err_and}
use Rattle.dodgy_2d.specs.Read.{outcome_of, origin_of}
use Rattle.dodgy_2d.specs.Admitted.{scene_from, admitted_outcome, admitted_origin}
use Rattle.dodgy_2d.proofs.Agreement.{said}
use Rattle.dodgy_2d.proofs.solve_admitted_scene.Goals as goal

pub returns-in_err-judge_sizes : goal.returns-in_err-judge_sizes
unfolding admitted_outcome admitted_origin
returns-in_err-judge_sizes c =
    let e = err_from_is_err_and c.from_residual.result c.from_residual.ensures.1 in
    let a = c.args in
    let s = scene_from a.scene a.kinds a.counts a.vertices.now a.lines.now in
    let told : outcome_of c.from_residual.result ≡ admitted_outcome s =
    rw (e.1, e.2) (simp (← c.in_err-judge_sizes.ensures)) in
    let origin : origin_of c.from_residual.result ≡ admitted_origin s =
    rw e.1 (simp (← c.in_err-judge_sizes.ensures)) in
    record { answer = said _ _ told origin; told = told }

pub returns : goal.returns
unfolding admitted_outcome admitted_origin
returns c =
    let a = c.args in
    let s = scene_from a.scene a.kinds a.counts a.vertices.now a.lines.now in
    let told : outcome_of c.solve.result ≡ admitted_outcome s =
    simp (← c.in_ok-judge_sizes.ensures) c.solve.ensures.outcome in
    let origin : origin_of c.solve.result ≡ admitted_origin s =
    simp (← c.in_ok-judge_sizes.ensures) c.solve.ensures.origin in
    record { answer = said _ _ told origin; told = told }
