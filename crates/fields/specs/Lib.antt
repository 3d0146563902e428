-- The definitions of fields that the contracts of readers and writers cite.
pub mod Bytes
pub mod Got
