pub mod Stored
pub mod Opened
pub mod Cleaned
pub mod Stale
pub mod Cut
pub mod Reopened
pub mod Added
