pub mod Said
pub mod Needs
