-- `linear_programming::solve_admitted_lines` meets its contract. Assumes nothing.
use mathlib.Core.Path.{sym}
use Rattle.std.proofs.lemmas.Result.{err_from_is_err_and}
use Rattle.linear_programming.specs.Admit.{admitted_call}
use Rattle.linear_programming.proofs.JudgeLaws.{few-counted}
use Rattle.linear_programming.proofs.solve_admitted_lines.Goals as goal

pub returns-in_err-judge_count : goal.returns-in_err-judge_count
unfolding admitted_call
returns-in_err-judge_count c =
    let p = err_from_is_err_and c.from_residual.result c.from_residual.ensures.1 in
    simp (p.1, p.2, ← c.in_err-judge_count.ensures)

pub solve_from_start-requires : goal.solve_from_start-requires
solve_from_start-requires c = few-counted c.args.lines.now (sym c.in_ok-judge_count.ensures)

pub returns : goal.returns
unfolding admitted_call
returns c = simp (← c.in_ok-judge_count.ensures) c.solve_from_start.ensures
