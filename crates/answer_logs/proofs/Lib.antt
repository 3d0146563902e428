-- The laws of `answer_logs` that other crates may cite.
pub mod LogLaws
pub mod RecordLaws
pub mod PartLaws
pub mod CutLaws
pub mod Worked
pub mod Agreement
