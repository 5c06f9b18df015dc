pub mod Ways
pub mod Pagewise
