pub mod Tagged
pub mod Blocks
pub mod Keys
pub mod Recorded
pub mod Entries
pub mod Mounted
