-- The definitions that the contracts of `admission` cite.
pub mod Faults
pub mod Heads
pub mod Refusals
