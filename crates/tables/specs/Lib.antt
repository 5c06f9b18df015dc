pub mod Records
pub mod Tells
