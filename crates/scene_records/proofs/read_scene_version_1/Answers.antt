-- `scene_records::read_scene_version_1` meets its contract. Assumes nothing.
use mathlib.Core.Path.{◌∙◌}
use Rattle.scene_records.proofs.Chains.{result-exit, refused-exit}
use Rattle.scene_records.proofs.VersionLaws.{version-1-given, version-1-refused}
use Rattle.scene_records.proofs.read_scene_version_1.Goals as goal

pub returns-in_err-fields_at-clause-answer : goal.returns-in_err-fields_at-clause-answer
returns-in_err-fields_at-clause-answer c = result-exit _ _ c.from_residual-in_err-fields_at.ensures.1
    ∙ version-1-given _ _ _ _ c.in_ok-at.ensures c.in_ok-at-2.ensures c.in_err-fields_at.ensures.answer

pub returns-in_err-fields_at-clause-told : goal.returns-in_err-fields_at-clause-told
returns-in_err-fields_at-clause-told c = refused-exit _ _ _ c.from_residual-in_err-fields_at.ensures.1
    (version-1-refused _ _ _ _ c.in_ok-at.ensures c.in_ok-at-2.ensures c.in_err-fields_at.ensures.told)

pub returns-clause-answer : goal.returns-clause-answer
returns-clause-answer c = version-1-given _ _ _ _ c.in_ok-at.ensures c.in_ok-at-2.ensures c.in_ok-fields_at.ensures.answer
