pub mod Versions
pub mod Sorted
pub mod Meaning
pub mod Sayings
pub mod Reading
pub mod Mount
pub mod Changes
pub mod Links
