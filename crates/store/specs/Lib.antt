pub mod Views
pub mod Deeds
