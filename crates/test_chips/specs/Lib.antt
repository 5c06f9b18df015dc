pub mod Counted
pub mod Rows
pub mod Shaped
