-- The laws of `admission`: of faults and of judgements, and of an obstacle's head.
pub mod FaultLaws
pub mod HeadLaws
