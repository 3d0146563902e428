-- The laws of `fallback_index`.
pub mod IndexLaws
pub mod MoreLaws
pub mod PartLaws
pub mod QuestionLaws
pub mod UpdateLaws
pub mod AppendLaws
pub mod Examples
