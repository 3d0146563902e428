-- The laws of `scene_records`: of the steps that the code takes; of records and the bytes of scenes, there and back; and
-- of the answer.
pub mod Chains
pub mod Taken
pub mod StoredLaws
pub mod WallLaws
pub mod RowLaws
pub mod VersionLaws
pub mod SceneParts
pub mod ReadBytes
pub mod ReadAdmitted
pub mod WrittenParts
pub mod WrittenScenes
pub mod SceneAllBytes
pub mod AnswerLaws
pub mod Constants
