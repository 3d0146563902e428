-- The laws of a session's calls: where it stands over which lines, that it is the fresh one over them, also where it is
-- changed, by a wall's name too, demand 3 over any history and over any cut into batches, of origins, of lines that do
-- not matter, and of lines taken back.
pub mod StandLaws
pub mod FreshLaws
pub mod ChangeLaws
pub mod WallLaws
pub mod HistoryLaws
pub mod CutLaws
pub mod OriginLaws
pub mod MetLaws
pub mod BackLaws
pub mod WithdrawalCases
pub mod MetCases
