pub mod Touches
pub mod Dealings
pub mod Absent
pub mod Examples
pub mod Deals
pub mod Seen
pub mod Tables
