pub mod Sparing
pub mod Exclusive
