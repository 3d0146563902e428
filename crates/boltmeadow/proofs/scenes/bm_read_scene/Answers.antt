-- `boltmeadow::scenes::bm_read_scene` meets its contract. Assumes nothing.
use mathlib.Core.Path.{◌∙◌}
use Rattle.std.specs.Prelude.{Ok, Err}
use Rattle.scene_records.specs.Versions.{scene_in}
use Rattle.boltmeadow.proofs.LeftLaws.{scene-told}
use Rattle.boltmeadow.proofs.scenes.bm_read_scene.Goals as goal

pub returns-in-Ok : goal.returns-in-Ok
returns-in-Ok c = c.told.ensures
    ∙ scene-told (Ok c.in-Ok.read) (scene_in c.args.scene.now) c.in-Ok.ensures.answer c.in-Ok.ensures.told

pub returns-in-Err : goal.returns-in-Err
returns-in-Err c = c.untold.ensures
    ∙ scene-told (Err c.in-Err.refusal) (scene_in c.args.scene.now) c.in-Err.ensures.answer c.in-Err.ensures.told
