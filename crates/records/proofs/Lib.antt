-- The laws of `records` that other crates may cite.
pub mod AnsweredLaws
pub mod PartLaws
pub mod StepLaws
pub mod WorkLaws
pub mod CutLaws
pub mod LoopLaws
pub mod EndLaws
pub mod RunLaws
pub mod RoomLaws
pub mod TurnLaws
pub mod Agreement
pub mod NumberedBack
pub mod RefusalLaws
pub mod OutcomeLaws
pub mod PlaceLaws
pub mod NumberLaws
