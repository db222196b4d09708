pub mod Counts
pub mod Limits
pub mod Names
pub mod Programs
pub mod Slots
pub mod Seen
pub mod Accepted
