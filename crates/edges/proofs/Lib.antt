-- The laws of `edges`: of the cover test, of the constants, and that two answers of one promise agree.
pub mod Choices
pub mod Covered
pub mod Computed
pub mod Agreement
