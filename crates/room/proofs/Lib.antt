pub mod Blocks
pub mod Tells
pub mod Rooms
pub mod Purges
