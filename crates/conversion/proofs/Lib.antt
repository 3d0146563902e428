-- The laws of `conversion` that other crates may cite.
pub mod MetLaws
pub mod WalkedLaws
pub mod RunLaws
pub mod BackLaws
pub mod StepLaws
pub mod LoopLaws
pub mod TurnLaws
pub mod Agreement
