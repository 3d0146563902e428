-- The laws of `one_line`: of folds over lines, of the solve, of the enums that its answer is, and that its answers agree.
pub mod LineFolds
pub mod OneLineLaws
pub mod Variants
pub mod Agreement
