-- The definitions that the contracts of `convert` cite.
pub mod Turns
