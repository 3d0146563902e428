-- The definitions that the contracts of `fallbacks` cite.
pub mod Turns
