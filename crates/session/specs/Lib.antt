pub mod Requests
pub mod Slips
pub mod Blanks
pub mod Memory
pub mod Turns
pub mod Kinds
pub mod Sessions
pub mod Stages
