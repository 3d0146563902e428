-- The laws of `comparison` that other crates may cite.
pub mod PlaceLaws
pub mod PartLaws
pub mod TurnLaws
pub mod ReadLaws
pub mod OwnLaws
pub mod Agreement
