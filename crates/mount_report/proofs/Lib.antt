pub mod Granted
pub mod Buffers
pub mod Verdicts
