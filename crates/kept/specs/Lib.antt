-- The definitions that the contracts of `kept` cite.
pub mod Kept
pub mod Walks
