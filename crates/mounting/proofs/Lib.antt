mod Distinct
mod Filling
mod BirthTurns
mod BlockTurns
mod Chunks
mod KeyTurns
mod RecordTurns
mod SectorTurns
pub mod Bare
pub mod Links
pub mod Told
mod Silent
mod Read
mod Store
