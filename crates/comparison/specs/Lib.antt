-- The definitions that the contracts of `comparison` and of the program `compare` cite.
pub mod Agreeing
pub mod Places
pub mod Turns
pub mod Comparing
pub mod Reads
pub mod Verdicts
