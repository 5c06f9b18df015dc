pub mod Consistent
pub mod Holding
pub mod Noted
pub mod Lookups
pub mod Counting
pub mod Fresh
pub mod Written
