-- The laws of `log_walks`.
pub mod FoundLaws
pub mod WalkLaws
pub mod SplitLaws
pub mod PartLaws
