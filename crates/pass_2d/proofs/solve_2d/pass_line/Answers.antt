-- `pass_2d::solve_2d::pass_line` meets its contract. Assumes nothing.
use native.Mathlib.Omega.{arith}
use lib.Seq.{length-take-le}
use Rattle.std.specs.Prelude.{Ok}
use Rattle.std.proofs.lemmas.Result.{err_from_is_err_and}
use Rattle.arithmetic.specs.Binary32.{when◌then◌else◌}
use Rattle.lines.specs.Lines.{lines_of}
use Rattle.lines.proofs.Rows.{lines_fit}
use Rattle.pass_2d.specs.Pass.{solved, pass_line}
use Rattle.pass_2d.proofs.Variants.{few-looked}
use Rattle.pass_2d.proofs.solve_2d.pass_line.Goals as goal

pub returns-then-determinant : goal.returns-then-determinant
unfolding pass_line when◌then◌else◌
returns-then-determinant c = simp (
  c.if-determinant.true,
  ← c.determinant.ensures,
  ← c.sub.ensures,
  ← c.line_at-line.ensures,
)

pub returns-in_err-along : goal.returns-in_err-along
unfolding pass_line when◌then◌else◌ solved
returns-in_err-along c =
    let p = err_from_is_err_and c.from_residual.result c.from_residual.ensures.1 in
    simp (
      p.1,
      p.2,
      ← c.in_err-along.ensures,
      c.if-determinant.false,
      ← c.determinant.ensures,
      ← c.sub.ensures,
      ← c.line_at-line.ensures,
    )

pub returns-in_err-judge_point-in-At : goal.returns-in_err-judge_point-in-At
unfolding pass_line when◌then◌else◌ solved
returns-in_err-judge_point-in-At c =
    let r = c.from_residual-in_err-judge_point-in-At in
    let p = err_from_is_err_and r.result r.ensures.1 in
    simp (
      p.1,
      p.2,
      ← rw c.in-At.is at c.in_ok-along.ensures,
      c.if-determinant.false,
      ← c.determinant.ensures,
      ← c.sub.ensures,
      ← c.line_at-line.ensures,
    ) (c.in_err-judge_point-in-At.ensures _)

pub overflow_cast-result : goal.overflow_cast-result
overflow_cast-result c =
    let along = c.in_ok-along in
    let few = few-looked _ _ _ c.args.lines.now _ (omega arith) (omega arith) (Ok along.along) along.ensures in
    omega (arith, rw c.in-At.is at few)

pub overflow_add-result-in-At-2 : goal.overflow_add-result-in-At-2
overflow_add-result-in-At-2 c =
    let along = c.in_ok-along in
    let few = few-looked _ _ _ c.args.lines.now _ (omega arith) (omega arith) (Ok along.along) along.ensures in
    omega (arith, rw c.in-At.is at few)

pub returns-in_ok-judge_point-in-At : goal.returns-in_ok-judge_point-in-At
unfolding pass_line when◌then◌else◌ solved
returns-in_ok-judge_point-in-At c =
    simp (
      ← rw c.in-At.is at c.in_ok-along.ensures,
      c.if-determinant.false,
      ← c.determinant.ensures,
      ← c.sub.ensures,
      ← c.line_at-line.ensures,
    ) (c.in_ok-judge_point-in-At.ensures _)

pub overflow_cast-result-in-Fails : goal.overflow_cast-result-in-Fails
overflow_cast-result-in-Fails c =
    let along = c.in_ok-along in
    let few = few-looked _ _ _ c.args.lines.now _ (omega arith) (omega arith) (Ok along.along) along.ensures in
    omega (arith, rw c.in-Fails.is at few)

pub overflow_add-result-in-Fails-2 : goal.overflow_add-result-in-Fails-2
overflow_add-result-in-Fails-2 c =
    let along = c.in_ok-along in
    let few = few-looked _ _ _ c.args.lines.now _ (omega arith) (omega arith) (Ok along.along) along.ensures in
    omega (arith, rw c.in-Fails.is at few)

pub returns-in-Fails : goal.returns-in-Fails
unfolding pass_line when◌then◌else◌ solved
returns-in-Fails c =
    let a = c.args in
    let short = length-take-le a.index (lines_of a.lines.now) (lines_fit a.lines.now a.index (omega arith)) in
    simp (
      short,
      ← rw c.in-Fails.is at c.in_ok-along.ensures,
      c.if-determinant.false,
      ← c.determinant.ensures,
      ← c.sub.ensures,
      ← c.line_at-line.ensures,
    )
