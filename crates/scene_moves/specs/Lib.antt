-- The definitions that the contracts of `scene_moves` cite.
pub mod Moves
