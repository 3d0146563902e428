-- The laws of `compare`.
pub mod TurnLaws
