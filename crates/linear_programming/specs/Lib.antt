-- The definitions that the contracts of `linear_programming` cite, in the order of 01's "Rules of the solve".
pub mod Whole
pub mod Admit
pub mod Resume
pub mod Read
