-- The definitions that the contracts of `replay_common` cite.
pub mod CommonSet
