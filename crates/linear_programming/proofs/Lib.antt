-- The laws of `linear_programming`: of rules before an outcome, of the whole list line by line, and what it never refuses.
pub mod JudgeLaws
pub mod Steps
pub mod WholeLaws
pub mod WholeProbes
pub mod CauseLaws
pub mod FailedLaws
pub mod ResumeLaws
pub mod Bounds
pub mod Agreement
pub mod Computed
