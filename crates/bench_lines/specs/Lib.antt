pub mod Splits
pub mod Numbers
pub mod Commands
pub mod Lines
pub mod Replies
