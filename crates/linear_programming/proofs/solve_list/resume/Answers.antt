-- `linear_programming::solve_list::resume` meets its contract. Assumes nothing.
use mathlib.Core.Path.{◌∙◌}
use native.Mathlib.Omega.{arith}
use Rattle.std.specs.Prelude.{Ok}
use Rattle.std.proofs.lemmas.Result.{err_from_is_err_and}
use Rattle.lines.proofs.Rows.{lines_long, lines-take-all}
use Rattle.pass_2d.proofs.CallLaws.{few-resumed, resumed-most}
use Rattle.relaxation.proofs.CallLaws.{relaxed-most}
use Rattle.linear_programming.specs.Whole.{after_pass}
use Rattle.linear_programming.specs.Resume.{resumed}
use Rattle.linear_programming.specs.Read.{failed_of}
use Rattle.linear_programming.proofs.ResumeLaws.{relaxed-behind}
use Rattle.linear_programming.proofs.solve_list.resume.Goals as goal

pub returns-in_err-pass-in-Solving : goal.returns-in_err-pass-in-Solving
unfolding resumed after_pass
returns-in_err-pass-in-Solving c =
    let p = err_from_is_err_and c.from_residual.result c.from_residual.ensures.1 in
    let short = rw (← lines_long c.args.lines.now) at c.requires in
    let all = rw (lines-take-all c.args.lines.now) at c.in_err-pass-in-Solving.ensures in
    let pass = all ∙ few-resumed _ _ _ short _ _ in
    simp (p.1, p.2, c.in-Solving.is, ← pass)

pub after_pass-requires : goal.after_pass-requires
after_pass-requires c =
    let short = rw (← lines_long c.args.lines.now) at c.requires in
    let all = rw (lines-take-all c.args.lines.now) at c.in_ok-pass-in-Solving.ensures in
    (c.requires, resumed-most _ _ _ short _ _ (Ok c.in_ok-pass-in-Solving.pass) all)

pub returns-in_ok-pass-in-Solving : goal.returns-in_ok-pass-in-Solving
unfolding resumed
returns-in_ok-pass-in-Solving c =
    let short = rw (← lines_long c.args.lines.now) at c.requires in
    let all = rw (lines-take-all c.args.lines.now) at c.in_ok-pass-in-Solving.ensures in
    let pass = all ∙ few-resumed _ _ _ short _ _ in
    simp (c.in-Solving.is, ← pass) c.after_pass.ensures

pub returns-in_err-relaxed-in-Relaxing : goal.returns-in_err-relaxed-in-Relaxing
unfolding resumed
returns-in_err-relaxed-in-Relaxing c =
    let r = c.from_residual-in_err-relaxed-in-Relaxing in
    let p = err_from_is_err_and r.result r.ensures.1 in
    let short = rw (← lines_long c.args.lines.now) at c.requires in
    let all = rw (lines-take-all c.args.lines.now) at c.in_err-relaxed-in-Relaxing.ensures in
    let relaxed = relaxed-behind _ _ _ short _ _ _ (failed_of c.args.failed) 0 _ all in
    simp (p.1, p.2, c.in-Relaxing.is) relaxed

pub relaxed_standing-requires : goal.relaxed_standing-requires
relaxed_standing-requires c =
    let short = rw (← lines_long c.args.lines.now) at c.requires in
    let all = rw (lines-take-all c.args.lines.now) at c.in_ok-relaxed-in-Relaxing.ensures in
    (omega arith, relaxed-most _ _ _ short _ _ _ (Ok c.in_ok-relaxed-in-Relaxing.relaxed) all)

pub returns-in_ok-relaxed-in-Relaxing : goal.returns-in_ok-relaxed-in-Relaxing
unfolding resumed
returns-in_ok-relaxed-in-Relaxing c =
    let short = rw (← lines_long c.args.lines.now) at c.requires in
    let all = rw (lines-take-all c.args.lines.now) at c.in_ok-relaxed-in-Relaxing.ensures in
    let relaxed = relaxed-behind _ _ _ short _ _ _ (failed_of c.args.failed) 0 _ all in
    simp c.in-Relaxing.is (c.relaxed_standing.ensures ∙ relaxed)

pub returns-in-RigidFailure : goal.returns-in-RigidFailure
unfolding resumed
returns-in-RigidFailure c = simp c.in-RigidFailure.is
