pub mod Depths
pub mod Fronts
pub mod Turns
pub mod Forms
pub mod Steps
