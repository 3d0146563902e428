-- The laws of `scene_moves`: of the bytes of a record in either version, and of the moves.
pub mod ReadGood
pub mod VersionParts
pub mod Places
pub mod ZeroLaws
pub mod PutMoves
pub mod MoveLaws
pub mod ToldMoves
pub mod Worked
