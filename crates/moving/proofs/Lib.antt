pub mod Places
pub mod Says
pub mod Copies
pub mod Tallies
pub mod Erasures
pub mod Relocations
pub mod Keeps
