-- The laws of `kept` that other crates may cite.
pub mod KeptLaws
pub mod WalkLaws
