-- The definitions that the contracts of `session` cite.
pub mod Calls
pub mod Sessions
pub mod Batches
pub mod Withdrawals
pub mod Changes
pub mod Meeting
pub mod Handed
