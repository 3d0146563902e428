-- The laws of `words` that other crates may cite.
pub mod Laws
