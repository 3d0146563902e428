-- The laws of `boltmeadow`: of what a call leaves in a lent buffer and in the arrays of a session, that beside a
-- refusal all else is 0, and that any two outcomes agree.
pub mod Agreement
pub mod BlankLaws
pub mod LeftLaws
pub mod SessionLaws
