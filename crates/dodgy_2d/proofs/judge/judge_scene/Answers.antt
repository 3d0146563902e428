-- `dodgy_2d::judge::judge_scene` meets its contract. Assumes nothing.
use mathlib.Core.Path.{ap, ◌∙◌}
use Rattle.lines.specs.LineFaults.{lines_fault}
use Rattle.lines.proofs.Rows.{lines-take}
use Rattle.dodgy_2d.specs.Scenes.{scene_fault}
use Rattle.dodgy_2d.proofs.judge.judge_scene.Goals as goal

pub returns : goal.returns
unfolding scene_fault
returns c =
    let s = c.args.scene in
    simp (
      ← c.in_ok-judge_cart.ensures,
      ← c.in_ok-unless.ensures,
      ← c.in_ok-judge_obstacles.ensures,
      ← c.in_ok-unless-2.ensures,
    )
    (c.judge_lines.ensures ∙ ap lines_fault (lines-take s.lines s.neighbours))
