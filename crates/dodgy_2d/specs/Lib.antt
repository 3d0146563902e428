-- The definitions that the contracts of `dodgy_2d` cite.
pub mod Scenes
pub mod Outcomes
pub mod Origins
pub mod Read
pub mod Admitted
