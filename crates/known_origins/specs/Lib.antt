-- What is known of a failed line's origin, which the laws cite.
pub mod Known
