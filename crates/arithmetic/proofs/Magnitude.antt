-- How large the values of a computation in binary32 are. A size is a power of two, counted in smallest values, 2 ^
-- -149, so that each exponent is a natural number. Size says what is counted; Rounding, that no power of two is
-- crossed; the others, what each operation and comparison makes of it.
pub mod Size
pub mod Rounding
pub mod Operations
pub mod Comparisons
pub mod SquareRoots
pub mod EndsInOrder
pub mod Near
