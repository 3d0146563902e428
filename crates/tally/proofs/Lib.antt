-- The laws of `tally`.
pub mod TurnLaws
