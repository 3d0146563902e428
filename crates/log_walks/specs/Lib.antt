-- The definitions that the contracts of `log_walks` cite.
pub mod Figures
pub mod Parts
pub mod Walks
