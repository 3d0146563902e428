-- `obstacles::judge::judge_obstacle` meets its contract. Assumes nothing.
use mathlib.Core.Path.{sym}
use native.Mathlib.Omega.{arith}
use Rattle.obstacles.proofs.ObstacleFaults.{head-room}
use Rattle.obstacles.proofs.judge.judge_obstacle.Goals as goal

pub overflow_mul-head : goal.overflow_mul-head
overflow_mul-head c = omega (arith, (head-room 0 c.args.head (sym c.in_ok-judge_head.ensures)).0)
