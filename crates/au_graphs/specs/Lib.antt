pub mod Reached
pub mod Walks
pub mod Finding
pub mod Cycles
pub mod Lists
pub mod Marks
pub mod Peeling
