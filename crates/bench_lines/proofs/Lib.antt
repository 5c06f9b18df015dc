pub mod Numerals
pub mod Printed
pub mod Inputs
