-- The definitions that the contracts of `tally` cite.
pub mod Turns
