pub mod Lists
pub mod Settle
pub mod Sorted
pub mod Meaning
pub mod PageLaws
