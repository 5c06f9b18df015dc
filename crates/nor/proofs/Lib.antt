pub mod Places
pub mod Pairs
pub mod Words
pub mod Changes
