pub mod Fills
pub mod Calls
pub mod Replies
pub mod Runs
pub mod Faults
