-- The definitions that the contracts of `arithmetic` cite.
pub mod Binary32
pub mod Ends
pub mod Root
pub mod Whole
pub mod Guesses
