-- The laws of `index_building`.
pub mod Agreement
pub mod LengthLaws
pub mod EntryLaws
pub mod PutLaws
pub mod LaidLaws
pub mod BuildLaws
pub mod WholeLaws
pub mod StreamLaws
pub mod StoredLaws
pub mod Examples
