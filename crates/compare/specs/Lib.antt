-- The definitions that the contracts of `compare` cite.
pub mod Turns
