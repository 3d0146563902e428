-- `wall_check::check_move` meets its contract. Assumes nothing.
use mathlib.Core.Path.{sym}
use Rattle.wall_check.proofs.Accepted.{obstacles-pass}
use Rattle.wall_check.proofs.check_move.Goals as goal

pub check_obstacles-requires : goal.check_obstacles-requires
check_obstacles-requires c =
    let a = c.args in
    obstacles-pass a.from a.to a.obstacles a.kinds.now a.counts.now a.vertices.now (sym c.in_ok-judge_move.ensures)
