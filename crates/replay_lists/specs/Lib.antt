-- The definitions that the contracts of `replay_lists` cite.
pub mod ListsSet
