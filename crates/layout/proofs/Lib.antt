pub mod Words
pub mod Pairs
pub mod RegisterRead
pub mod Tags
