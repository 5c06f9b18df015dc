pub mod Exits
pub mod Remembered
pub mod Data
pub mod Holding
pub mod Filled
pub mod Begun
