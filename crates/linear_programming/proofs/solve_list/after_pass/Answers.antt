-- `linear_programming::solve_list::after_pass` meets its contract. Assumes nothing.
use mathlib.Core.Path.{◌∙◌}
use borrow.Author.Tests.{lt-ltb, le-ltb}
use Rattle.std.specs.Prelude.{Ok}
use Rattle.std.proofs.lemmas.Result.{err_from_is_err_and}
use Rattle.arithmetic.specs.Binary32.{when◌then◌else◌}
use Rattle.lines.proofs.Rows.{lines_long, lines-take-all}
use Rattle.relaxation.proofs.CallLaws.{relaxed-most}
use Rattle.linear_programming.specs.Whole.{after_pass}
use Rattle.linear_programming.proofs.ResumeLaws.{relaxed-behind}
use Rattle.linear_programming.proofs.solve_list.after_pass.Goals as goal

pub returns-then-k-rigid : goal.returns-then-k-rigid
unfolding after_pass when◌then◌else◌
returns-then-k-rigid c = simp (lt-ltb _ _ c.if-k-rigid.true, c.in-Infeasible.is)

pub relaxed_standing-requires : goal.relaxed_standing-requires
relaxed_standing-requires c =
    let probes = rw c.in-Infeasible.is at c.requires.1 in
    let short = rw (← lines_long c.args.lines.now) at c.requires.0 in
    let all = rw (lines-take-all c.args.lines.now) at c.in_ok-relaxed-in-Infeasible.ensures in
    (probes, relaxed-most _ _ _ short _ _ _ (Ok c.in_ok-relaxed-in-Infeasible.relaxed) all)

pub returns-in-Feasible : goal.returns-in-Feasible
unfolding after_pass
returns-in-Feasible c = simp c.in-Feasible.is

pub returns-in_err-relaxed-in-Infeasible : goal.returns-in_err-relaxed-in-Infeasible
unfolding after_pass when◌then◌else◌
returns-in_err-relaxed-in-Infeasible c =
    let p = err_from_is_err_and c.from_residual.result c.from_residual.ensures.1 in
    let short = rw (← lines_long c.args.lines.now) at c.requires.0 in
    let all = rw (lines-take-all c.args.lines.now) at c.in_err-relaxed-in-Infeasible.ensures in
    let relaxed = relaxed-behind _ _ _ short _ _ _ _ c.in-Infeasible.probes _ all in
    simp (p.1, p.2, c.in-Infeasible.is, le-ltb _ _ c.if-k-rigid.false) relaxed

pub returns-in_ok-relaxed-in-Infeasible : goal.returns-in_ok-relaxed-in-Infeasible
unfolding after_pass when◌then◌else◌
returns-in_ok-relaxed-in-Infeasible c =
    let short = rw (← lines_long c.args.lines.now) at c.requires.0 in
    let all = rw (lines-take-all c.args.lines.now) at c.in_ok-relaxed-in-Infeasible.ensures in
    let relaxed = relaxed-behind _ _ _ short _ _ _ _ _ _ all in
    simp (le-ltb _ _ c.if-k-rigid.false, c.in-Infeasible.is) (c.relaxed_standing.ensures ∙ relaxed)
