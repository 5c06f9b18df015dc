pub mod Part
pub mod Shaped
