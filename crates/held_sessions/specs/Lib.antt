-- The definitions that the contracts of `held_sessions` cite.
pub mod Blocks
