pub mod Cleaning
pub mod Adding
pub mod Registering
pub mod Formatting
pub mod Rewinding
pub mod Cutting
pub mod Restarting
pub mod Returning
