-- The definitions that the contracts of `relaxation` cite: 01's "Relaxation", and what the enums of the code say by it.
pub mod Relax
pub mod Calls
pub mod Read
