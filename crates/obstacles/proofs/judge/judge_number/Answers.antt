-- `obstacles::judge::judge_number` meets its contract. Assumes nothing.
use mathlib.Core.Path.{sym}
use lib.Ieee.{nan}
use Rattle.obstacles.proofs.ObstacleFaults.{number-there, number-missing}
use Rattle.obstacles.proofs.judge.judge_number.Goals as goal

pub returns-then-at-numbers : goal.returns-then-at-numbers
returns-then-at-numbers c = rw (number-there _ _ _ nan c.if-at-numbers.true, ← c.is_within.ensures) c.unless.ensures

pub returns : goal.returns
returns c = sym (number-missing _ _ _ c.if-at-numbers.false)
