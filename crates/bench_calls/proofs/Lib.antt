pub mod Pushed
pub mod Conducted
