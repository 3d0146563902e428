-- The definitions that the contracts of `one_line` cite: 01's "One-line solve", and what the enums of the code say by it.
pub mod OneLine
pub mod Read
