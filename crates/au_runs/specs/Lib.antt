pub mod Orders
pub mod Loaded
pub mod Calls
pub mod Steps
pub mod Waits
