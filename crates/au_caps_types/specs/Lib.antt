pub mod Heads
pub mod Naming
pub mod Reaching
pub mod Views
