-- The definitions that the contracts of `conversion` and of the program `convert` cite.
pub mod Stages
pub mod Streams
pub mod Steps
pub mod Turns
