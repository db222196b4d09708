pub mod Answers
pub mod Births
pub mod Laws
pub mod Stores
