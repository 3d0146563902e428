-- `linear_programming::solve_list::solve_from_start` meets its contract. Assumes nothing.
use mathlib.Core.Path.{◌∙◌}
use Rattle.std.specs.Prelude.{Ok}
use Rattle.std.proofs.lemmas.Result.{err_from_is_err_and}
use Rattle.lines.proofs.Rows.{lines_long, lines-take-all}
use Rattle.pass_2d.proofs.CallLaws.{few-called, called-most}
use Rattle.linear_programming.specs.Whole.{after_pass, whole_list}
use Rattle.linear_programming.proofs.solve_list.solve_from_start.Goals as goal

pub returns-in_err-pass : goal.returns-in_err-pass
unfolding whole_list after_pass
returns-in_err-pass c =
    let p = err_from_is_err_and c.from_residual.result c.from_residual.ensures.1 in
    let short = rw (← lines_long c.args.lines.now) at c.requires in
    let all = rw (lines-take-all c.args.lines.now) at c.in_err-pass.ensures in
    let pass = all ∙ few-called _ _ _ short in
    simp (p.1, p.2, ← pass)

pub after_pass-requires : goal.after_pass-requires
after_pass-requires c =
    let short = rw (← lines_long c.args.lines.now) at c.requires in
    let all = rw (lines-take-all c.args.lines.now) at c.in_ok-pass.ensures in
    (c.requires, called-most _ _ _ short (Ok c.in_ok-pass.pass) all)

pub returns : goal.returns
unfolding whole_list
returns c =
    let short = rw (← lines_long c.args.lines.now) at c.requires in
    let all = rw (lines-take-all c.args.lines.now) at c.in_ok-pass.ensures in
    let pass = all ∙ few-called _ _ _ short in
    simp (← pass) c.after_pass.ensures
