-- The definitions that the contracts of `edges` cite, in the order of the Rust's obstacles.rs.
pub mod Edges
pub mod Cover
pub mod Collision
pub mod Shadows
pub mod Cutoffs
pub mod EdgeLines
pub mod Read
