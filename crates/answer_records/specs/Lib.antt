-- The definitions that the contracts of `answer_records` cite.
pub mod Answers
pub mod Replies
pub mod Numbers
