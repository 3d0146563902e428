-- The laws of `daily_tally` that other crates may cite.
pub mod StepLaws
pub mod AddingLaws
pub mod GoodLaws
pub mod PageLaws
pub mod FigureLaws
pub mod FitLaws
pub mod Worked
