-- The laws of `fallbacks`.
pub mod TurnLaws
