-- The definitions that the contracts of `fallback_index` cite.
pub mod Questions
pub mod Appends
pub mod Parts
