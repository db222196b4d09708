pub mod States
pub mod Newest
