-- The laws of `pass_2d`: of rules, of walks, of a pass and its probes, of the enums that its answer is, and that its answers agree.
pub mod RuleLaws
pub mod WalkLaws
pub mod PassLaws
pub mod Probes
pub mod CallLaws
pub mod Variants
pub mod Agreement
