-- The laws of `session`: of a batch's work, of a withdrawal's, of a change's, of met lines counted, of sessions that
-- are handed out, of a start, and that any two outcomes agree.
pub mod StoreLaws
pub mod BatchWork
pub mod WithdrawalWork
pub mod ChangeWork
pub mod MeetingWork
pub mod HandedLaws
pub mod StartLaws
pub mod Agreement
