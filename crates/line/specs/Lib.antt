pub mod Line
pub mod Law
pub mod Runs
pub mod Cases
pub mod Equation
