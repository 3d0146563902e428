-- The laws of `answer_records` that other crates may cite.
pub mod WrittenLaws
pub mod ReplyLaws
pub mod RoundTrips
pub mod NumberLaws
pub mod Agreement
pub mod Constants
