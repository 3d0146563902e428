-- The laws of `arithmetic`: of agreement, of signs and ends, of bit patterns, of the root, and of lists and magnitudes
-- that all layers use.
pub mod Agree
pub mod Signs
pub mod Between
pub mod Difference
pub mod EndLaws
pub mod Patterns
pub mod RootBits
pub mod Rounded
pub mod Steps
pub mod Rows
pub mod Roots
pub mod RootLaw
pub mod Choice
pub mod Lists
pub mod Magnitude
