-- The definitions that the contracts of `replay_standings` cite.
pub mod Standings
