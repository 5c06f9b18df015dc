pub mod Follows
pub mod Changes
pub mod Holds
pub mod Opening
