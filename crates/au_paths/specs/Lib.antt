pub mod Seen
pub mod Standing
pub mod Lendings
pub mod Walked
