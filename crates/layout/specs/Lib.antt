pub mod Bytes
pub mod Kinds
pub mod Parts
pub mod Page
