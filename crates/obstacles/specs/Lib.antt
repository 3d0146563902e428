-- The definitions that the contracts of `obstacles` cite, in the order of the Rust's obstacles.rs.
pub mod Vertices
pub mod Doubled
pub mod ObstacleFaults
pub mod Obstacles
pub mod Read
