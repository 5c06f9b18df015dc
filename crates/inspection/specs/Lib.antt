pub mod Arguments
pub mod Images
pub mod Descriptions
pub mod Reports
