-- The definitions that the contracts of `records` cite, and where a record's numbers stand, which a law does.
pub mod Answered
pub mod Numbers
pub mod Parts
pub mod Steps
pub mod Streams
pub mod Turns
