-- The definitions that the contracts of `boltmeadow` cite.
pub mod Layouts
pub mod Lists
pub mod Logs
pub mod Scenes
pub mod Sessions
