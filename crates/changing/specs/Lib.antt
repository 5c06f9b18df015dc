pub mod Changed
pub mod Format
pub mod Back
