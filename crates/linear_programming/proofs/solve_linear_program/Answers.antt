-- `linear_programming::solve_linear_program` meets its contract. Assumes nothing.
use mathlib.Core.Path.{sym}
use Rattle.std.proofs.lemmas.Result.{err_from_is_err_and}
use Rattle.linear_programming.proofs.JudgeLaws.{counted-first, few-counted}
use Rattle.linear_programming.proofs.solve_linear_program.Goals as goal

pub returns-in_err-judge_count : goal.returns-in_err-judge_count
returns-in_err-judge_count c =
    let a = c.args in
    let p = err_from_is_err_and c.from_residual.result c.from_residual.ensures.1 in
    simp (counted-first a.rigid a.wish a.limit a.numbers.now, p.1, p.2, ← c.in_err-judge_count.ensures)

pub returns-in_err-judge_wish : goal.returns-in_err-judge_wish
returns-in_err-judge_wish c =
    let a = c.args in
    let r = c.from_residual-in_err-judge_wish in
    let p = err_from_is_err_and r.result r.ensures.1 in
    simp (
      counted-first a.rigid a.wish a.limit a.numbers.now,
      p.1,
      p.2,
      ← c.in_ok-judge_count.ensures,
      ← c.in_err-judge_wish.ensures,
    )

pub returns-in_err-judge_lines : goal.returns-in_err-judge_lines
returns-in_err-judge_lines c =
    let a = c.args in
    let r = c.from_residual-in_err-judge_lines in
    let p = err_from_is_err_and r.result r.ensures.1 in
    simp (
      counted-first a.rigid a.wish a.limit a.numbers.now,
      p.1,
      p.2,
      ← c.in_ok-judge_count.ensures,
      ← c.in_ok-judge_wish.ensures,
      ← c.in_err-judge_lines.ensures,
    )

pub solve_from_start-requires : goal.solve_from_start-requires
solve_from_start-requires c = few-counted c.args.numbers.now (sym c.in_ok-judge_count.ensures)

pub returns : goal.returns
returns c =
    let a = c.args in
    simp (
      counted-first a.rigid a.wish a.limit a.numbers.now,
      ← c.in_ok-judge_count.ensures,
      ← c.in_ok-judge_wish.ensures,
      ← c.in_ok-judge_lines.ensures,
    ) c.solve_from_start.ensures
