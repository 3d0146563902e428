-- `boltmeadow::walls::bm_obstacle_lines` meets its contract. Assumes nothing.
use mathlib.Core.Path.{ap, sym, ◌∙◌}
use Rattle.obstacles.specs.Obstacles.{obstacle_call}
use Rattle.obstacles.specs.Read.{blank_numbers}
use Rattle.boltmeadow.specs.Layouts.{agent_at, no_obstacle, lines_told}
use Rattle.boltmeadow.proofs.LeftLaws.{lines-told}
use Rattle.boltmeadow.proofs.walls.bm_obstacle_lines.Goals as goal

pub returns-in-Ok : goal.returns-in-Ok
returns-in-Ok c =
    let a = c.args in
    let made = c.get_lines_for_agent_to_obstacle-made in
    ap lines_told (sym c.in-Ok.is) ∙ lines-told _
    (obstacle_call (agent_at a.position_x a.position_y a.velocity_x a.velocity_y) a.kind a.vertices.now a.count a.margin a.horizon)
    made.ensures.answer made.ensures.told

pub returns-in-Err : goal.returns-in-Err
unfolding no_obstacle blank_numbers
returns-in-Err c =
    let a = c.args in
    let made = c.get_lines_for_agent_to_obstacle-made in
    rw (c.from.ensures, c.number.ensures) (ap lines_told (sym c.in-Err.is) ∙ lines-told _
    (obstacle_call (agent_at a.position_x a.position_y a.velocity_x a.velocity_y) a.kind a.vertices.now a.count a.margin a.horizon)
    made.ensures.answer made.ensures.told)
