-- `scene_writer::judge_rest` meets its contract. Assumes nothing.
use mathlib.Core.Path.{sym}
use native.Mathlib.Omega.{arith}
use Rattle.scene_writer.proofs.LinesInOrder.{few-passed}
use Rattle.scene_writer.proofs.judge_rest.Goals as goal

pub overflow_mul-parts : goal.overflow_mul-parts
overflow_mul-parts c = omega (arith, (few-passed _ _ (sym c.in_ok-judge_neighbours.ensures)).0)
