pub mod Digits
mod Writes
pub mod TagRound
pub mod PartsRound
pub mod Round
pub mod Canon
