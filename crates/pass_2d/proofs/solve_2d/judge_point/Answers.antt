-- `pass_2d::solve_2d::judge_point` meets its contract. Assumes nothing.
use Rattle.pass_2d.specs.Pass.{refused, judged}
use Rattle.pass_2d.proofs.RuleLaws.{must-unless}
use Rattle.pass_2d.proofs.solve_2d.judge_point.Goals as goal

pub returns-in-Direction : goal.returns-in-Direction
unfolding judged
returns-in-Direction c = λ n. simp c.in-Direction.is

pub returns-in-Point : goal.returns-in-Point
unfolding judged
returns-in-Point c = λ n. simp (c.unless.ensures, c.is_finite_point.ensures, c.in-Point.is) (must-unless refused _ 9 _)
