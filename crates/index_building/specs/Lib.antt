-- The definitions that the contracts of `index_building` cite.
pub mod Indexes
pub mod Builds
pub mod Stores
