-- The definitions that the contracts of `plain_numbers` cite.
pub mod Kinds
