-- The laws of `lines`: of lists in order, of lists of lines as numbers there and back, of origins as numbers, of a line
-- stored among them, of faults, and the constants.
pub mod Fold
pub mod Rows
pub mod Numbers
pub mod OriginRows
pub mod Stored
pub mod JudgeLaws
pub mod Computed
