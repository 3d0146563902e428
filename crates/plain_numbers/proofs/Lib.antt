-- The laws of `plain_numbers`: phases and failed lines as numbers, there and back.
pub mod KindLaws
