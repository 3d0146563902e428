-- `dodgy_2d::compute_avoiding_velocity` meets its contract. Assumes nothing.
use mathlib.Core.Path.{◌≡◌, sym}
use lib.ListN.{length}
use borrow.Author.Rules.{rules}
use Rattle.std.proofs.lemmas.Result.{err_from_is_err_and}
use Rattle.dodgy_2d.specs.Outcomes.{scene_outcome}
use Rattle.dodgy_2d.specs.Origins.{scene_origin}
use Rattle.dodgy_2d.specs.Read.{outcome_of, origin_of}
use Rattle.dodgy_2d.proofs.Agreement.{said}
use Rattle.dodgy_2d.proofs.ScenePasses.{admitted-sizes}
use Rattle.dodgy_2d.proofs.compute_avoiding_velocity.Goals as goal

pub returns-in_err-judge_scene : goal.returns-in_err-judge_scene
unfolding scene_outcome scene_origin
returns-in_err-judge_scene c =
    let e = err_from_is_err_and c.from_residual.result c.from_residual.ensures.1 in
    let told : outcome_of c.from_residual.result ≡ scene_outcome c.args.scene =
    rw (e.1, e.2) (simp (← c.in_err-judge_scene.ensures)) in
    let origin : origin_of c.from_residual.result ≡ scene_origin c.args.scene =
    rw e.1 (simp (← c.in_err-judge_scene.ensures)) in
    record { answer = said _ _ told origin; told = told }

pub invariant_of-solve : goal.invariant_of-solve
invariant_of-solve c =
    let size : length c.args.scene.lines ≡ 256 = search rules in
    rw c.bare.ensures (admitted-sizes c.args.scene size (sym c.in_ok-judge_scene.ensures))

pub returns : goal.returns
unfolding scene_outcome scene_origin
returns c =
    let told : outcome_of c.solve.result ≡ scene_outcome c.args.scene =
    simp (← c.in_ok-judge_scene.ensures) (rw c.bare.ensures at c.solve.ensures.outcome) in
    let origin : origin_of c.solve.result ≡ scene_origin c.args.scene =
    simp (← c.in_ok-judge_scene.ensures) (rw c.bare.ensures at c.solve.ensures.origin) in
    record { answer = said _ _ told origin; told = told }
