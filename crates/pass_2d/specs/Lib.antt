-- The definitions that the contracts of `pass_2d` cite: 01's "Start" and "A line is met ..", and what the enums of the
-- code say by them.
pub mod Walk
pub mod Pass
pub mod Calls
pub mod Read
