-- The laws of `scene_writer`.
pub mod LinesInOrder
pub mod PutLaws
pub mod Accepted
pub mod Untouched
pub mod SameFaults
pub mod WrittenIsRead
pub mod ReadIsWritten
pub mod Agreement
pub mod Computed
pub mod Judging
