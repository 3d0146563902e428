-- The laws of fields that readers and writers cite.
pub mod ByteLaws
pub mod ChainLaws
pub mod Spans
pub mod Backs
pub mod WordLaws
pub mod StoreLaws
