-- The definitions that the contracts of `replay_records` cite.
pub mod Answers
pub mod Records
