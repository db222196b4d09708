pub mod Mentions
pub mod Reaching
pub mod Bodies
pub mod Holding
pub mod Views
pub mod Entries
pub mod Examples
