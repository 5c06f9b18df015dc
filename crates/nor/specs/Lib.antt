pub mod Image
pub mod At
pub mod Shaped
pub mod Program
