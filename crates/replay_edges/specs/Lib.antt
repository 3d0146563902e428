-- The definitions that the contracts of `replay_edges` cite.
pub mod EdgesSet
