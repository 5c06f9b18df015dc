pub mod Piles
pub mod Staged
pub mod Finished
