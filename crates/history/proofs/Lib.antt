pub mod Queries
pub mod Lawful
pub mod Premise
